use Rattle.buffer_parts.proofs.BreakLemmas.SortOrders.{mark_orders_permute}
use Rattle.buffer_parts.proofs.breaks.sort_laws.law_mark_orders_permute.Goals as goal

pub returns : goal.returns
returns c = mark_orders_permute
