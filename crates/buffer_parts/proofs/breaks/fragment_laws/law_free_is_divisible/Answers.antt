use Rattle.buffer_parts.proofs.BreakLemmas.Division.{free_is_divisible}
use Rattle.buffer_parts.proofs.breaks.fragment_laws.law_free_is_divisible.Goals as goal

pub returns : goal.returns
returns c = free_is_divisible
