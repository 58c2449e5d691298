use Rattle.layout_laws.proofs.BreakLemmas.InOrder.{lookups_in_order_are_divisible}
use Rattle.layout_laws.proofs.breaks.pass_laws.law_lookups_in_order_are_divisible.Goals as goal

pub returns : goal.returns
returns c = lookups_in_order_are_divisible
