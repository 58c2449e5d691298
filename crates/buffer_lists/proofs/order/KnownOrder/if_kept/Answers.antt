use Rattle.buffer_lists.proofs.Between.{order_if_kept}
use Rattle.buffer_lists.proofs.order.KnownOrder.if_kept.Goals as goal

pub returns-then-kept : goal.returns-then-kept
returns-then-kept c = λ old new keeps h. order_if_kept c.args.self old new (λ falls. keeps falls c.if-kept.true) h
