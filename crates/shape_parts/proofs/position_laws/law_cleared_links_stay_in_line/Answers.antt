use Rattle.shape_parts.proofs.Glyphs.{cleared_links_stay}
use Rattle.shape_parts.proofs.position_laws.law_cleared_links_stay_in_line.Goals as goal

pub returns : goal.returns
returns c = cleared_links_stay
