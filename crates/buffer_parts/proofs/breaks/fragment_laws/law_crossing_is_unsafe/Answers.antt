use Rattle.buffer_parts.proofs.BreakLemmas.Beside.{crossing_is_unsafe}
use Rattle.buffer_parts.proofs.breaks.fragment_laws.law_crossing_is_unsafe.Goals as goal

pub returns : goal.returns
returns c = crossing_is_unsafe
