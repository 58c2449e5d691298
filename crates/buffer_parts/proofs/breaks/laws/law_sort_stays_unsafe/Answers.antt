use Rattle.buffer_parts.proofs.BreakLemmas.Crossing.{sort_stays_unsafe}
use Rattle.buffer_parts.proofs.breaks.laws.law_sort_stays_unsafe.Goals as goal

pub returns : goal.returns
returns c = sort_stays_unsafe
