use Rattle.buffer_parts.proofs.BreakLemmas.SortOrders.{walks_are_lossless}
use Rattle.buffer_parts.proofs.breaks.sort_laws.law_walks_are_lossless.Goals as goal

pub returns : goal.returns
returns c = walks_are_lossless
