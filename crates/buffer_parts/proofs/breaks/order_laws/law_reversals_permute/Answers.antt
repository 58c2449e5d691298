use Rattle.buffer_parts.proofs.BreakLemmas.Orders.{reversals_permute}
use Rattle.buffer_parts.proofs.breaks.order_laws.law_reversals_permute.Goals as goal

pub returns : goal.returns
returns c = reversals_permute
