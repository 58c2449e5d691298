use Rattle.script_dispatch.specs.Lemmas.Keeping.Orders.{orders_keep_plainly}
use Rattle.script_dispatch.proofs.laws.law_orders_keep_plainly.Goals as goal

pub returns : goal.returns
returns c = orders_keep_plainly
