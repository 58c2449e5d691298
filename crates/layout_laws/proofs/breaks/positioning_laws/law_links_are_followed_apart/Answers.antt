use Rattle.layout_laws.proofs.BreakLemmas.Following.{links_are_followed_apart}
use Rattle.layout_laws.proofs.breaks.positioning_laws.law_links_are_followed_apart.Goals as goal

pub returns : goal.returns
returns c = links_are_followed_apart
