use Rattle.buffer_parts.proofs.BreakLemmas.Divided.{whole_events_divide}
use Rattle.buffer_parts.proofs.breaks.side_laws.law_whole_events_divide.Goals as goal

pub returns : goal.returns
returns c = whole_events_divide
