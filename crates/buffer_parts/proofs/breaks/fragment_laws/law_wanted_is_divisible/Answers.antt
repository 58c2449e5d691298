use Rattle.buffer_parts.proofs.BreakLemmas.Division.{wanted_is_divisible}
use Rattle.buffer_parts.proofs.breaks.fragment_laws.law_wanted_is_divisible.Goals as goal

pub returns : goal.returns
returns c = wanted_is_divisible
