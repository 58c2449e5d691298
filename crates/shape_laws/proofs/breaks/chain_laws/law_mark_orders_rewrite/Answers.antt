use Rattle.shape_laws.proofs.BreakLemmas.Scripts.{mark_orders_rewrite}
use Rattle.shape_laws.proofs.breaks.chain_laws.law_mark_orders_rewrite.Goals as goal

pub returns : goal.returns
returns c = mark_orders_rewrite
