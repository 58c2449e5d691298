use Rattle.shape_parts.proofs.Glyphs.{spread_stays}
use Rattle.shape_parts.proofs.glyph_laws.law_spread_stays_in_line.Goals as goal

pub returns : goal.returns
returns c = spread_stays
