use Rattle.buffer_parts.proofs.BreakLemmas.Crossing.{bound_stays_unsafe}
use Rattle.buffer_parts.proofs.breaks.laws.law_bound_stays_unsafe.Goals as goal

pub returns : goal.returns
returns c = bound_stays_unsafe
