use Rattle.layout_offsets.proofs.Kept.{links_are_cleared}
use Rattle.layout_offsets.proofs.laws.law_links_are_cleared.Goals as goal

pub returns : goal.returns
returns c = links_are_cleared
