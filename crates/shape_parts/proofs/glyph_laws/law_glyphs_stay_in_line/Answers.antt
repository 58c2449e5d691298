use Rattle.shape_parts.proofs.Glyphs.{glyphs_stay}
use Rattle.shape_parts.proofs.glyph_laws.law_glyphs_stay_in_line.Goals as goal

pub returns : goal.returns
returns c = glyphs_stay
