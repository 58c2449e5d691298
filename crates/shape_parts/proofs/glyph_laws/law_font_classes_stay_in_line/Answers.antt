use Rattle.shape_parts.proofs.Glyphs.{font_classes_stay}
use Rattle.shape_parts.proofs.glyph_laws.law_font_classes_stay_in_line.Goals as goal

pub returns : goal.returns
returns c = font_classes_stay
