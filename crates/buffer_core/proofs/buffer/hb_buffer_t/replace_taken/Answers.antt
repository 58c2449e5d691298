use Rattle.std.specs.Vec.{with_items}
use Rattle.std.proofs.Common.{◌≡◌, ◌≢◌, ◌≤◌, ◌+◌, ◌-◌, ◌++◌, true, length, take, drop, nat_lt, refl, rules, arith, ap, sym, ◌∙◌}
use Rattle.std.proofs.lemmas.Grind.{common_steps}
use Rattle.std.proofs.lemmas.List.{length-take-le}
use Rattle.buffer_core.specs.Inside.{IsSound}
use Rattle.buffer_core.specs.Merging.{with_has_glyph_flags, with_replaced}
use Rattle.buffer_core.specs.Sides.{requests_breaks}
use Rattle.buffer_core.proofs.Open.{end_of_replaced, has_left, moved_on, moved_view, replaced_view, settled_open, sound_moved, sound_over}
use Rattle.buffer_core.proofs.Room.{more_ahead}
use Rattle.buffer_core.proofs.Slices.{all_put}
use Rattle.buffer_core.proofs.buffer.hb_buffer_t.replace_taken.Goals as goal
use Rattle.buffer_core.proofs.Changed.{front_long, front_before as front_within}
use Rattle.buffer_facts.proofs.Numbers.{at_most_by_test as within}

pub replace_first-marked-requires-clause-known : goal.replace_first-marked-requires-clause-known
replace_first-marked-requires-clause-known c =
    let b = c.self.inside in
    let open_now : b.have_output ≡ true = rw (← c.self.view_is) at c.requires.open in
    let room = c.in_ok-moved.ensures in
    let settled = settled_open b c.settle.new.self.known c.self.invariant open_now (λ m n. (rw c.deref.ensures.value at (c.settle.ensures.order m n))) in
    rw (c.deref_mut.ensures.value, room.output, room.input) settled

pub invariant_of-self-2 : goal.invariant_of-self-2
invariant_of-self-2 c =
    let b = c.self.inside in
    let open_now : b.have_output ≡ true = rw (← c.self.view_is) at c.requires.open in
    let room = c.in_ok-moved.ensures in
    let settled = settled_open b c.settle.new.self.known c.self.invariant open_now (λ m n. (rw c.deref.ensures.value at (c.settle.ensures.order m n))) in
    let counted : c.make_room.new.glyphs.len ≡ length c.make_room.new.glyphs.items = first_of (search rules, grind (arith, common_steps)) in
    let in_info : b.info.len ≡ length b.info.items = first_of (search rules, grind (arith, common_steps)) in
    let many : length c.make_room.new.glyphs.items ≡ length b.info.items + c.in_ok-moved.moved = sym counted ∙ room.len ∙ ap (λ k. k + c.in_ok-moved.moved) in_info in
    let m = moved_on b c.make_room.new.glyphs c.settle.new.self c.in_ok-moved.moved c.has_left-self-inside.result in
    let s : IsSound m = sound_moved b c.make_room.new.glyphs c.settle.new.self c.in_ok-moved.moved c.has_left-self-inside.result c.has_left-self-inside.ensures c.self.invariant open_now room.output room.input many c.settle.ensures.back settled in
    let done = c.replace_first-marked in
    let end = done.result.2 in
    let taken = c.args.num_in in
    let numbers = c.args.glyph_data.now in
    let info = with_items m.info done.new.glyphs in
    let count : length c.deref_mut.result.now ≡ length m.info.items = ap length c.deref_mut.ensures.value in
    let put : info.items ≡ done.new.glyphs = all_put m.info done.new.glyphs done.new.glyphs counted refl (done.ensures.len ∙ count) in
    let long : length info.items ≡ length m.info.items = ap length put ∙ done.ensures.len ∙ count in
    let output = ap (take end) put ∙ (rw c.deref_mut.ensures.value at done.ensures.output) in
    let there : taken ≤ length (drop b.idx b.info.items) = rw (← c.self.view_is) at c.requires.taken in
    let rest : m.idx + taken ≤ length m.info.items = more_ahead m.info.items m.idx taken s.cursor (rw room.input there) in
    let wide : length (take end info.items) ≡ end = length-take-le end info.items (omega (arith, long, done.ensures.end, rest)) in
    let some : length (take b.out_len b.info.items ++ drop b.idx b.info.items) ≢ 0 = rw (← c.self.view_is, open_now) at c.requires.some in
    let some_moved : length (take m.out_len m.info.items ++ drop m.idx m.info.items) ≢ 0 = rw (room.output, room.input) some in
    let past = sym wide ∙ ap length output ∙ end_of_replaced c.asks_breaks-breaks.result b.cluster_level taken numbers (take m.out_len m.info.items) (drop m.idx m.info.items) some_moved in
    let fits = within (length (take b.out_len b.info.items) + length numbers) b.max_len (rw (← c.self.view_is, open_now) at c.requires.room) in
    let front = front_long m s open_now in
    let front_before = front_long b c.self.invariant open_now in
    let known = rw (← put) at done.ensures.order in
    sound_over m info (record { known = done.result.1; lent = c.settle.new.self.lent }) end (m.idx + taken) _ s open_now long done.ensures.end rest (omega (arith, s.opened)) (omega (arith, past, fits, front, front_before)) c.settle.ensures.back known

pub returns-clause-replaced : goal.returns-clause-replaced
returns-clause-replaced c =
    let b = c.self.inside in
    let open_now : b.have_output ≡ true = rw (← c.self.view_is) at c.requires.open in
    let room = c.in_ok-moved.ensures in
    let settled = settled_open b c.settle.new.self.known c.self.invariant open_now (λ m n. (rw c.deref.ensures.value at (c.settle.ensures.order m n))) in
    let counted : c.make_room.new.glyphs.len ≡ length c.make_room.new.glyphs.items = first_of (search rules, grind (arith, common_steps)) in
    let in_info : b.info.len ≡ length b.info.items = first_of (search rules, grind (arith, common_steps)) in
    let many : length c.make_room.new.glyphs.items ≡ length b.info.items + c.in_ok-moved.moved = sym counted ∙ room.len ∙ ap (λ k. k + c.in_ok-moved.moved) in_info in
    let m = moved_on b c.make_room.new.glyphs c.settle.new.self c.in_ok-moved.moved c.has_left-self-inside.result in
    let s : IsSound m = sound_moved b c.make_room.new.glyphs c.settle.new.self c.in_ok-moved.moved c.has_left-self-inside.result c.has_left-self-inside.ensures c.self.invariant open_now room.output room.input many c.settle.ensures.back settled in
    let done = c.replace_first-marked in
    let end = done.result.2 in
    let taken = c.args.num_in in
    let numbers = c.args.glyph_data.now in
    let info = with_items m.info done.new.glyphs in
    let count : length c.deref_mut.result.now ≡ length m.info.items = ap length c.deref_mut.ensures.value in
    let put : info.items ≡ done.new.glyphs = all_put m.info done.new.glyphs done.new.glyphs counted refl (done.ensures.len ∙ count) in
    let long : length info.items ≡ length m.info.items = ap length put ∙ done.ensures.len ∙ count in
    let output = ap (take end) put ∙ (rw c.deref_mut.ensures.value at done.ensures.output) in
    let input = ap (drop (m.idx + taken)) put ∙ (rw c.deref_mut.ensures.value at done.ensures.input) in
    let there : taken ≤ length (drop b.idx b.info.items) = rw (← c.self.view_is) at c.requires.taken in
    let rest : m.idx + taken ≤ length m.info.items = more_ahead m.info.items m.idx taken s.cursor (rw room.input there) in
    let wide : length (take end info.items) ≡ end = length-take-le end info.items (omega (arith, long, done.ensures.end, rest)) in
    let some : length (take b.out_len b.info.items ++ drop b.idx b.info.items) ≢ 0 = rw (← c.self.view_is, open_now) at c.requires.some in
    let some_moved : length (take m.out_len m.info.items ++ drop m.idx m.info.items) ≢ 0 = rw (room.output, room.input) some in
    let past : end ≡ b.out_len + length numbers = sym wide ∙ ap length output ∙ end_of_replaced c.asks_breaks-breaks.result b.cluster_level taken numbers (take m.out_len m.info.items) (drop m.idx m.info.items) some_moved ∙ ap (λ k. k + length numbers) (front_long m s open_now) in
    let moved : nat_lt 0 c.in_ok-moved.moved ≡ nat_lt b.idx (b.out_len + (length numbers - taken)) = rw c.saturating_sub-more.ensures at room.moved in
    let left = c.has_left-self-inside.ensures ∙ has_left b.is_apart b.gap b.idx c.in_ok-moved.moved (length numbers) taken b.out_len end c.self.invariant.unopened (front_within b c.self.invariant open_now) moved past in
    let any = c.add_has_glyph_flags-self-inside.ensures ∙ ap (λ f. with_has_glyph_flags f b.scratch_flags) (rw c.deref_mut.ensures.value at done.ensures.any) in
    replaced_view c.asks_breaks-breaks.result m info (record { known = done.result.1; lent = c.settle.new.self.lent }) end taken _ numbers b.is_apart (c.asks_breaks-breaks.ensures ∙ ap requests_breaks (sym c.self.view_is)) open_now s.opened left wide input output any ∙ ap (with_replaced taken numbers) (moved_view b c.make_room.new.glyphs c.settle.new.self c.in_ok-moved.moved c.has_left-self-inside.result open_now room.output room.input ∙ c.self.view_is)
