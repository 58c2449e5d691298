use Rattle.layout_offsets.proofs.Drawn.{trees_are_drawn}
use Rattle.layout_offsets.proofs.laws.law_trees_are_drawn.Goals as goal

pub returns : goal.returns
returns c = trees_are_drawn
