use Rattle.std.specs.Vec.{with_items}
use Rattle.std.proofs.Common.{◌≡◌, ◌+◌, true, length, take, drop, refl, rules, arith, ap, sym, ◌∙◌}
use Rattle.std.proofs.lemmas.Grind.{common_steps}
use Rattle.buffer_core.specs.Inside.{IsSound}
use Rattle.buffer_core.proofs.Open.{moved_on, order_put, settled_open, sound_moved, sound_over}
use Rattle.buffer_core.proofs.Slices.{all_put}
use Rattle.buffer_core.proofs.buffer.hb_buffer_t.put_info.Goals as goal
use Rattle.buffer_core.proofs.Changed.{front_long}
use Rattle.buffer_facts.proofs.Numbers.{at_most_by_test as within}

pub invariant_of-self-2 : goal.invariant_of-self-2
invariant_of-self-2 c =
    let b = c.self.inside in
    let open_now : b.have_output ≡ true = rw (← c.self.view_is) at c.requires.open in
    let room = c.in_ok-moved.ensures in
    let settled = settled_open b c.settle.new.self.known c.self.invariant open_now (λ m n. (rw c.deref.ensures.value at (c.settle.ensures.order m n))) in
    let counted : c.make_room.new.glyphs.len ≡ length c.make_room.new.glyphs.items = first_of (search rules, grind (arith, common_steps)) in
    let in_info : b.info.len ≡ length b.info.items = first_of (search rules, grind (arith, common_steps)) in
    let many : length c.make_room.new.glyphs.items ≡ length b.info.items + c.in_ok-moved.moved = sym counted ∙ room.len ∙ ap (λ k. k + c.in_ok-moved.moved) in_info in
    let m = moved_on b c.make_room.new.glyphs c.settle.new.self c.in_ok-moved.moved c.has_left-self-inside.result in
    let s : IsSound m = sound_moved b c.make_room.new.glyphs c.settle.new.self c.in_ok-moved.moved c.has_left-self-inside.result c.has_left-self-inside.ensures c.self.invariant open_now room.output room.input many c.settle.ensures.back settled in
    let info = with_items m.info c.put.new.glyphs in
    let count : length c.deref_mut.result.now ≡ length m.info.items = ap length c.deref_mut.ensures.value in
    let put : info.items ≡ c.put.new.glyphs = all_put m.info c.put.new.glyphs c.put.new.glyphs counted refl (c.put.ensures.len ∙ count) in
    let long : length info.items ≡ length m.info.items = ap length put ∙ c.put.ensures.len ∙ count in
    let output = ap (take (m.out_len + 1)) put ∙ (rw c.deref_mut.ensures.value at c.put.ensures.output) in
    let input = ap (drop m.idx) put ∙ (rw c.deref_mut.ensures.value at c.put.ensures.input) in
    let fits = within (length (take b.out_len b.info.items) + 1) b.max_len (rw (← c.self.view_is, open_now) at c.requires.room) in
    let front = front_long b c.self.invariant open_now in
    let known = (rw c.deref-2.ensures.value at c.with_between-self-inside.ensures) (rw (room.output, room.input) settled) in
    sound_over m info (record { known = c.with_between-self-inside.result; lent = c.settle.new.self.lent }) (m.out_len + 1) m.idx m.scratch_flags s open_now long room.room s.cursor s.opened (omega (arith, fits, front)) c.settle.ensures.back
    (rw input (order_put c.with_between-self-inside.result (take m.out_len m.info.items) (drop m.idx m.info.items) (take (m.out_len + 1) info.items) c.args.glyph_info output known))
