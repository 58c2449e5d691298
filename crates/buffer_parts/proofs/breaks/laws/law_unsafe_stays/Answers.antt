use Rattle.buffer_parts.proofs.BreakLemmas.Events.{unsafe_stays}
use Rattle.buffer_parts.proofs.breaks.laws.law_unsafe_stays.Goals as goal

pub returns : goal.returns
returns c = unsafe_stays
