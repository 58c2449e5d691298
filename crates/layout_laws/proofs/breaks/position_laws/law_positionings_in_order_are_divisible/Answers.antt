use Rattle.layout_laws.proofs.BreakLemmas.PositionsInOrder.{positionings_in_order_are_divisible}
use Rattle.layout_laws.proofs.breaks.position_laws.law_positionings_in_order_are_divisible.Goals as goal

pub returns : goal.returns
returns c = positionings_in_order_are_divisible
