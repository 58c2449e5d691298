use Rattle.std.proofs.Common.{arith, ◌+◌, ◌<◌, length, drop, refl}
use Rattle.std.proofs.lemmas.Grind.{common_steps}
use Rattle.buffer_core.proofs.Ordered.{settled_own, sound_lent}
use Rattle.buffer_core.proofs.Written.{glyph_written, glyph_read}
use Rattle.buffer_core.proofs.buffer.hb_buffer_t.cur_mut.Goals as goal

pub returns : goal.returns
returns c =
    let within : c.args.i < length (drop c.self.inside.idx c.self.inside.info.items) = rw (← c.self.view_is) at c.requires in (
      (refl, λ w. rw (← c.self.view_is) (glyph_written c.self.inside c.args.i w c.self.invariant)),
      record { value = rw (← c.self.view_is) (glyph_read c.self.inside.info.items c.self.inside.idx c.args.i _ within c.index_mut.ensures.value); writes_back = tt },
    )

pub invariant_of-self-lent : goal.invariant_of-self-lent
invariant_of-self-lent c w =
    let b = c.self.inside in
    let lt : b.idx + c.args.i < length b.info.items = grind (arith, common_steps) in
    let known = settled_own b c.settle.new.self.known c.self.invariant (rw c.deref.ensures.value at c.settle.ensures.order) in
    rw c.index.ensures (sound_lent b c.settle.new.self.known _ (b.idx + c.args.i) w c.index.result.now c.self.invariant lt refl known)
