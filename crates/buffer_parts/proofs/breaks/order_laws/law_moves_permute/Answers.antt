use Rattle.buffer_parts.proofs.BreakLemmas.Orders.{moves_permute}
use Rattle.buffer_parts.proofs.breaks.order_laws.law_moves_permute.Goals as goal

pub returns : goal.returns
returns c = moves_permute
