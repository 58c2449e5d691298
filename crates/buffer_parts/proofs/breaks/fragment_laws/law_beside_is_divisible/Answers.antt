use Rattle.buffer_parts.proofs.BreakLemmas.Beside.{beside_is_divisible}
use Rattle.buffer_parts.proofs.breaks.fragment_laws.law_beside_is_divisible.Goals as goal

pub returns : goal.returns
returns c = beside_is_divisible
