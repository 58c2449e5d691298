use Rattle.layout_laws.proofs.BreakLemmas.PositionsInOrder.{positionings_divide_in_turn}
use Rattle.layout_laws.proofs.breaks.position_laws.law_positionings_divide_in_turn.Goals as goal

pub returns : goal.returns
returns c = positionings_divide_in_turn
