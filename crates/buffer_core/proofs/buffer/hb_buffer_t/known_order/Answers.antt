use Rattle.std.proofs.Common.{refl}
use Rattle.buffer_core.proofs.Ordered.{settled_all, settled_own, sound_settled}
use Rattle.buffer_core.proofs.buffer.hb_buffer_t.known_order.Goals as goal

pub returns-clause-order : goal.returns-clause-order
returns-clause-order c = rw (← c.self.view_is) (settled_all c.self.inside c.settle.new.self.known c.self.invariant (rw c.deref.ensures.value at c.settle.ensures.order))

pub invariant_of-self : goal.invariant_of-self
invariant_of-self c =
    let b = c.self.inside in
    sound_settled b b.info c.settle.new.self c.self.invariant refl c.settle.ensures.back (settled_own b c.settle.new.self.known c.self.invariant (rw c.deref.ensures.value at c.settle.ensures.order))
