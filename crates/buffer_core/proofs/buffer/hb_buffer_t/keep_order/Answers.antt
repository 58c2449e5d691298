use Rattle.std.proofs.Common.{refl, subst}
use Rattle.buffer_lists.specs.Known.{HasOrder}
use Rattle.buffer_core.proofs.Ordered.{all_own, sound_settled}
use Rattle.buffer_core.proofs.buffer.hb_buffer_t.keep_order.Goals as goal

pub invariant_of-self : goal.invariant_of-self
invariant_of-self c =
    let b = c.self.inside in
    let known = subst (HasOrder c.args.known) (all_own b) (rw (← c.self.view_is) at c.requires) in
    sound_settled b b.info c.of-self-inside.result c.self.invariant refl c.of-self-inside.ensures.lent (rw c.of-self-inside.ensures.known known)
