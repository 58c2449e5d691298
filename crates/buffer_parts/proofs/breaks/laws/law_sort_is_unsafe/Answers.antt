use Rattle.buffer_parts.proofs.BreakLemmas.Sorts.{sort_is_unsafe}
use Rattle.buffer_parts.proofs.breaks.laws.law_sort_is_unsafe.Goals as goal

pub returns : goal.returns
returns c = sort_is_unsafe
