use Rattle.std.proofs.Common.{arith, ◌≡◌, ◌-◌, ◌<◌, length, refl, ap, ◌∙◌}
use Rattle.buffer_core.specs.Lending.{with_last_behind}
use Rattle.buffer_core.proofs.Ordered.{settled_own, sound_lent, sound_settled}
use Rattle.buffer_core.proofs.Written.{end_before, end_long, end_of, last_read, last_written}
use Rattle.buffer_core.proofs.buffer.hb_buffer_t.prev_mut.Goals as goal

pub returns : goal.returns
returns c =
    let b = c.self.inside in
    let some : 0 < end_of b = rw (← c.self.view_is, end_long b c.self.invariant) at c.requires in
    let last : c.out_len-last.result ≡ end_of b = c.out_len-last.ensures ∙ end_long b c.self.invariant in (
      (refl, λ w. rw last (last_written b w c.self.invariant some ∙ ap (with_last_behind w) c.self.view_is)),
      record { value = rw (← c.self.view_is) (last_read b _ c.self.invariant some (rw last at c.index_mut.ensures.value)); writes_back = tt },
    )

pub invariant_of-self : goal.invariant_of-self
invariant_of-self c =
    let b = c.self.inside in
    sound_settled b b.info c.settle.new.self c.self.invariant refl c.settle.ensures.back (settled_own b c.settle.new.self.known c.self.invariant (rw c.deref.ensures.value at c.settle.ensures.order))

pub invariant_of-self-lent : goal.invariant_of-self-lent
invariant_of-self-lent c w =
    let b = c.self.inside in
    let some : 0 < end_of b = rw (← c.self.view_is, end_long b c.self.invariant) at c.requires in
    let last : c.out_len-last.result ≡ end_of b = c.out_len-last.ensures ∙ end_long b c.self.invariant in
    let lt : end_of b - 1 < length b.info.items = omega (arith, end_before b c.self.invariant, c.self.invariant.cursor, some) in
    let known = settled_own b c.settle.new.self.known c.self.invariant (rw c.deref.ensures.value at c.settle.ensures.order) in
    rw (c.index.ensures, last) (sound_lent b c.settle.new.self.known _ (end_of b - 1) w c.index.result.now c.self.invariant lt refl known)
