use Rattle.buffer_parts.proofs.BreakLemmas.Bound.{bound_is_unsafe}
use Rattle.buffer_parts.proofs.breaks.laws.law_bound_is_unsafe.Goals as goal

pub returns : goal.returns
returns c = bound_is_unsafe
