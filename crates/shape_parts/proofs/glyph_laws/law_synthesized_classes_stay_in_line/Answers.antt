use Rattle.shape_parts.proofs.Glyphs.{synthesized_classes_stay}
use Rattle.shape_parts.proofs.glyph_laws.law_synthesized_classes_stay_in_line.Goals as goal

pub returns : goal.returns
returns c = synthesized_classes_stay
