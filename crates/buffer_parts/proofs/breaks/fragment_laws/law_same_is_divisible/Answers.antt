use Rattle.buffer_parts.proofs.BreakLemmas.Division.{same_is_divisible}
use Rattle.buffer_parts.proofs.breaks.fragment_laws.law_same_is_divisible.Goals as goal

pub returns : goal.returns
returns c = same_is_divisible
