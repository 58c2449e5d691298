use Rattle.buffer_parts.proofs.BreakLemmas.SortOrders.{sorts_permute}
use Rattle.buffer_parts.proofs.breaks.sort_laws.law_sorts_permute.Goals as goal

pub returns : goal.returns
returns c = sorts_permute
