use Rattle.buffer_parts.proofs.BreakLemmas.Division.{divides_in_turn}
use Rattle.buffer_parts.proofs.breaks.fragment_laws.law_divides_in_turn.Goals as goal

pub returns : goal.returns
returns c = divides_in_turn
