use Rattle.std.specs.Vec.{with_items}
use Rattle.std.proofs.Common.{◌≡◌, ◌≢◌, ◌+◌, ◌++◌, ◌∷◌, [], true, length, take, drop, refl, rules, arith, ap, sym, ◌∙◌}
use Rattle.std.proofs.lemmas.Grind.{common_steps}
use Rattle.std.proofs.lemmas.List.{length-take-le}
use Rattle.buffer_core.specs.Merging.{with_output_glyph}
use Rattle.buffer_core.specs.Inside.{IsSound}
use Rattle.buffer_lists.proofs.Ordered.{order_copied}
use Rattle.buffer_core.proofs.Open.{copies_view, end_of_copies, has_left, moved_on, moved_view, settled_open, sound_moved, sound_over}
use Rattle.buffer_core.proofs.Slices.{all_put}
use Rattle.buffer_core.proofs.buffer.hb_buffer_t.put_copy.Goals as goal
use Rattle.buffer_core.proofs.Changed.{front_long, front_before as front_within}
use Rattle.buffer_facts.proofs.Numbers.{at_most_by_test as within}

pub invariant_of-self-2 : goal.invariant_of-self-2
invariant_of-self-2 c =
    let b = c.self.inside in
    let open_now : b.have_output ≡ true = rw (← c.self.view_is) at c.requires.open in
    let room = c.in_ok-moved.ensures in
    let settled = settled_open b c.settle.new.self.known c.self.invariant open_now (λ m n. (rw c.deref.ensures.value at (c.settle.ensures.order m n))) in
    let counted : c.make_room.new.glyphs.len ≡ length c.make_room.new.glyphs.items = first_of (search rules, grind (arith, common_steps)) in
    let in_info : b.info.len ≡ length b.info.items = first_of (search rules, grind (arith, common_steps)) in
    let many : length c.make_room.new.glyphs.items ≡ length b.info.items + c.in_ok-moved.moved = sym counted ∙ room.len ∙ ap (λ k. k + c.in_ok-moved.moved) in_info in
    let m = moved_on b c.make_room.new.glyphs c.settle.new.self c.in_ok-moved.moved c.has_left-self-inside.result in
    let s : IsSound m = sound_moved b c.make_room.new.glyphs c.settle.new.self c.in_ok-moved.moved c.has_left-self-inside.result c.has_left-self-inside.ensures c.self.invariant open_now room.output room.input many c.settle.ensures.back settled in
    let end = c.put_copies-self-inside.result in
    let info = with_items m.info c.put_copies-self-inside.new.glyphs in
    let count : length c.deref_mut.result.now ≡ length m.info.items = ap length c.deref_mut.ensures.value in
    let put : info.items ≡ c.put_copies-self-inside.new.glyphs = all_put m.info c.put_copies-self-inside.new.glyphs c.put_copies-self-inside.new.glyphs counted refl (c.put_copies-self-inside.ensures.len ∙ count) in
    let long : length info.items ≡ length m.info.items = ap length put ∙ c.put_copies-self-inside.ensures.len ∙ count in
    let output = ap (take end) put ∙ (rw c.deref_mut.ensures.value at c.put_copies-self-inside.ensures.output) in
    let input = ap (drop m.idx) put ∙ (rw c.deref_mut.ensures.value at c.put_copies-self-inside.ensures.input) in
    let wide : length (take end info.items) ≡ end = length-take-le end info.items (omega (arith, long, c.put_copies-self-inside.ensures.end, s.cursor)) in
    let some : length (take b.out_len b.info.items ++ drop b.idx b.info.items) ≢ 0 = rw (← c.self.view_is, open_now) at c.requires.some in
    let some_moved : length (take m.out_len m.info.items ++ drop m.idx m.info.items) ≢ 0 = rw (room.output, room.input) some in
    let past = sym wide ∙ ap length output ∙ end_of_copies (drop m.idx m.info.items) (take m.out_len m.info.items) (c.args.glyph_index ∷ []) some_moved in
    let fits = within (length (take b.out_len b.info.items) + 1) b.max_len (rw (← c.self.view_is, open_now) at c.requires.room) in
    let front = front_long m s open_now in
    let front_before = front_long b c.self.invariant open_now in
    let known = order_copied c.settle.new.self.known 0 (c.args.glyph_index ∷ []) (take m.out_len m.info.items) (drop m.idx m.info.items) (take end info.items) output (rw (room.output, room.input) settled) in
    sound_over m info c.settle.new.self end m.idx m.scratch_flags s open_now long c.put_copies-self-inside.ensures.end s.cursor s.opened (omega (arith, past, fits, front, front_before)) c.settle.ensures.back (rw input known)

pub returns-clause-put : goal.returns-clause-put
returns-clause-put c =
    let b = c.self.inside in
    let open_now : b.have_output ≡ true = rw (← c.self.view_is) at c.requires.open in
    let room = c.in_ok-moved.ensures in
    let settled = settled_open b c.settle.new.self.known c.self.invariant open_now (λ m n. (rw c.deref.ensures.value at (c.settle.ensures.order m n))) in
    let counted : c.make_room.new.glyphs.len ≡ length c.make_room.new.glyphs.items = first_of (search rules, grind (arith, common_steps)) in
    let in_info : b.info.len ≡ length b.info.items = first_of (search rules, grind (arith, common_steps)) in
    let many : length c.make_room.new.glyphs.items ≡ length b.info.items + c.in_ok-moved.moved = sym counted ∙ room.len ∙ ap (λ k. k + c.in_ok-moved.moved) in_info in
    let m = moved_on b c.make_room.new.glyphs c.settle.new.self c.in_ok-moved.moved c.has_left-self-inside.result in
    let s : IsSound m = sound_moved b c.make_room.new.glyphs c.settle.new.self c.in_ok-moved.moved c.has_left-self-inside.result c.has_left-self-inside.ensures c.self.invariant open_now room.output room.input many c.settle.ensures.back settled in
    let end = c.put_copies-self-inside.result in
    let info = with_items m.info c.put_copies-self-inside.new.glyphs in
    let count : length c.deref_mut.result.now ≡ length m.info.items = ap length c.deref_mut.ensures.value in
    let put : info.items ≡ c.put_copies-self-inside.new.glyphs = all_put m.info c.put_copies-self-inside.new.glyphs c.put_copies-self-inside.new.glyphs counted refl (c.put_copies-self-inside.ensures.len ∙ count) in
    let long : length info.items ≡ length m.info.items = ap length put ∙ c.put_copies-self-inside.ensures.len ∙ count in
    let output = ap (take end) put ∙ (rw c.deref_mut.ensures.value at c.put_copies-self-inside.ensures.output) in
    let input = ap (drop m.idx) put ∙ (rw c.deref_mut.ensures.value at c.put_copies-self-inside.ensures.input) in
    let wide : length (take end info.items) ≡ end = length-take-le end info.items (omega (arith, long, c.put_copies-self-inside.ensures.end, s.cursor)) in
    let some : length (take b.out_len b.info.items ++ drop b.idx b.info.items) ≢ 0 = rw (← c.self.view_is, open_now) at c.requires.some in
    let some_moved : length (take m.out_len m.info.items ++ drop m.idx m.info.items) ≢ 0 = rw (room.output, room.input) some in
    let past : end ≡ b.out_len + 1 = sym wide ∙ ap length output ∙ end_of_copies (drop m.idx m.info.items) (take m.out_len m.info.items) (c.args.glyph_index ∷ []) some_moved ∙ ap (λ k. k + 1) (front_long m s open_now) in
    let left = c.has_left-self-inside.ensures ∙ has_left b.is_apart b.gap b.idx c.in_ok-moved.moved 1 0 b.out_len end c.self.invariant.unopened (front_within b c.self.invariant open_now) room.moved past in
    copies_view m info end c.args.glyph_index b.is_apart open_now left wide output input ∙ ap (with_output_glyph c.args.glyph_index) (moved_view b c.make_room.new.glyphs c.settle.new.self c.in_ok-moved.moved c.has_left-self-inside.result open_now room.output room.input ∙ c.self.view_is)
