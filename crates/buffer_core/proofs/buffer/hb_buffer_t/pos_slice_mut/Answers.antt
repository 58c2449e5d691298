use Rattle.std.proofs.Common.{rules, arith, ◌≡◌, ◌∙◌, length, refl, sym}
use Rattle.std.proofs.lemmas.Grind.{common_steps}
use Rattle.std.specs.List.{length_refill}
use Rattle.buffer_core.proofs.Ordered.{sound_placed}
use Rattle.buffer_core.proofs.buffer.hb_buffer_t.pos_slice_mut.Goals as goal

pub invariant_of-self-lent : goal.invariant_of-self-lent
invariant_of-self-lent c w =
    let b = c.self.inside in
    let counted : b.pos.len ≡ length b.pos.items = first_of (search rules, grind (arith, common_steps)) in
    sound_placed b b.info _ b.order c.self.invariant refl (sym (length_refill b.pos.len b.pos.items w counted) ∙ counted) c.self.invariant.ordered
