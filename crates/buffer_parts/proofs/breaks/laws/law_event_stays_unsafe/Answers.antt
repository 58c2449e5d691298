use Rattle.buffer_parts.proofs.BreakLemmas.Events.{event_stays_unsafe}
use Rattle.buffer_parts.proofs.breaks.laws.law_event_stays_unsafe.Goals as goal

pub returns : goal.returns
returns c = event_stays_unsafe
