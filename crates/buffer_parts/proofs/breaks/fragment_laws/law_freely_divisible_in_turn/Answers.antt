use Rattle.buffer_parts.proofs.BreakLemmas.Division.{freely_divisible_in_turn}
use Rattle.buffer_parts.proofs.breaks.fragment_laws.law_freely_divisible_in_turn.Goals as goal

pub returns : goal.returns
returns c = freely_divisible_in_turn
