use Rattle.std.proofs.Common.{◌≡◌, false, refl, subst, sym}
use Rattle.buffer_glyphs.specs.Items.{clusters}
use Rattle.buffer_lists.specs.Known.{HasOrder}
use Rattle.buffer_core.proofs.Ordered.{all_own, own_clusters, settled_own, sound_settled}
use Rattle.buffer_core.proofs.buffer.hb_buffer_t.walked_order.Goals as goal

walked : (c : goal.After-known-1) → HasOrder c.walked-known.result (own_clusters c.self.inside)
walked c =
    let b = c.self.inside in
    let closed : b.have_output ≡ false = rw (← c.self.view_is) at c.requires in
    let settled : HasOrder c.settle.new.self.known (clusters b.info.items) = rw closed at (settled_own b c.settle.new.self.known c.self.invariant (rw c.deref.ensures.value at c.settle.ensures.order)) in
    rw closed ((rw c.deref-2.ensures.value at c.walked-known.ensures) settled)

pub returns-clause-order : goal.returns-clause-order
returns-clause-order c = rw (← c.self.view_is) (subst (HasOrder c.walked-known.result) (sym (all_own c.self.inside)) (walked c))

pub invariant_of-self : goal.invariant_of-self
invariant_of-self c = sound_settled c.self.inside c.self.inside.info (record c.settle.new.self { known = c.walked-known.result }) c.self.invariant refl c.settle.ensures.back (walked c)
