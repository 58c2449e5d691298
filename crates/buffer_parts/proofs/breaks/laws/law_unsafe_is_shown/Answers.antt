use Rattle.buffer_parts.proofs.BreakLemmas.Shown.{unsafe_is_shown}
use Rattle.buffer_parts.proofs.breaks.laws.law_unsafe_is_shown.Goals as goal

pub returns : goal.returns
returns c = unsafe_is_shown
