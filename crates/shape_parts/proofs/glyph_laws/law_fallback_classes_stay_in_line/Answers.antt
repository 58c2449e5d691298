use Rattle.shape_parts.proofs.Glyphs.{fallback_classes_stay}
use Rattle.shape_parts.proofs.glyph_laws.law_fallback_classes_stay_in_line.Goals as goal

pub returns : goal.returns
returns c = fallback_classes_stay
