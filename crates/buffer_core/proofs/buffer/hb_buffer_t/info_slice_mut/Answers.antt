use Rattle.std.proofs.Common.{rules, arith, ◌≡◌, ◌∙◌, length, sym}
use Rattle.std.proofs.lemmas.Grind.{common_steps}
use Rattle.std.specs.List.{length_refill}
use Rattle.buffer_core.proofs.Ordered.{sound_as_many}
use Rattle.buffer_core.proofs.buffer.hb_buffer_t.info_slice_mut.Goals as goal

pub invariant_of-self-lent : goal.invariant_of-self-lent
invariant_of-self-lent c w =
    let b = c.self.inside in
    let counted : b.info.len ≡ length b.info.items = first_of (search rules, grind (arith, common_steps)) in
    sound_as_many b _ c.of-self-inside.result b.scratch_flags c.self.invariant (sym (length_refill b.info.len b.info.items w counted) ∙ counted) (rw c.of-self-inside.ensures.known tt)
