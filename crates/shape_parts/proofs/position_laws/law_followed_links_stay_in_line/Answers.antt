use Rattle.shape_parts.proofs.Glyphs.{followed_links_stay}
use Rattle.shape_parts.proofs.position_laws.law_followed_links_stay_in_line.Goals as goal

pub returns : goal.returns
returns c = followed_links_stay
