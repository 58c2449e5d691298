use Rattle.buffer_parts.proofs.BreakLemmas.Orders.{permutations_permute}
use Rattle.buffer_parts.proofs.breaks.order_laws.law_permutations_permute.Goals as goal

pub returns : goal.returns
returns c = permutations_permute
