use Rattle.shape_parts.proofs.Glyphs.{selectors_stay}
use Rattle.shape_parts.proofs.glyph_laws.law_selectors_stay_in_line.Goals as goal

pub returns : goal.returns
returns c = selectors_stay
