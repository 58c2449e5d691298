use Rattle.std.specs.Vec.{with_items}
use Rattle.std.proofs.Common.{◌≡◌, ◌≤◌, ◌+◌, true, length, take, drop, refl, rules, arith, ap, ◌∙◌}
use Rattle.std.proofs.lemmas.Grind.{common_steps}
use Rattle.buffer_core.specs.Sides.{after_next_glyphs}
use Rattle.buffer_core.proofs.Open.{along_view, order_passed, settled_open, sound_over}
use Rattle.buffer_core.proofs.Room.{more_ahead}
use Rattle.buffer_core.proofs.Slices.{all_put}
use Rattle.buffer_core.proofs.buffer.hb_buffer_t.pass.Goals as goal
use Rattle.buffer_core.proofs.Changed.{front_long, front_before as front_within}
use Rattle.buffer_facts.proofs.Numbers.{at_most_by_test as within}

pub returns-then-self : goal.returns-then-self
returns-then-self c =
    let b = c.self.inside in
    let open_now : b.have_output ≡ true = rw (← c.self.view_is) at c.requires.open in
    along_view b c.args.count open_now c.self.invariant.opened c.if-self.true ∙ ap (after_next_glyphs c.args.count) c.self.view_is

pub invariant_of-self-2 : goal.invariant_of-self-2
invariant_of-self-2 c =
    let b = c.self.inside in
    let k = c.args.count in
    let open_now : b.have_output ≡ true = rw (← c.self.view_is) at c.requires.open in
    let in_info : b.info.len ≡ length b.info.items = first_of (search rules, grind (arith, common_steps)) in
    let count : length c.deref_mut.result.now ≡ length b.info.items = ap length c.deref_mut.ensures.value in
    let info = with_items b.info c.output_first.new.glyphs in
    let put : info.items ≡ c.output_first.new.glyphs = all_put b.info c.output_first.new.glyphs c.output_first.new.glyphs in_info refl (c.output_first.ensures.len ∙ count) in
    let long : length info.items ≡ length b.info.items = ap length put ∙ c.output_first.ensures.len ∙ count in
    let there : b.idx + k ≤ length b.info.items = more_ahead b.info.items b.idx k c.self.invariant.cursor (rw (← c.self.view_is) at c.requires.there) in
    let settled = settled_open b c.settle.new.self.known c.self.invariant open_now (λ m n. (rw c.deref.ensures.value at (c.settle.ensures.order m n))) in
    let output = ap (take (b.out_len + k)) put ∙ (rw c.deref_mut.ensures.value at c.output_first.ensures.output) in
    let input = ap (drop (b.idx + k)) put ∙ (rw c.deref_mut.ensures.value at c.output_first.ensures.input) in
    let front = front_within b c.self.invariant open_now in
    let wide = front_long b c.self.invariant open_now in
    let fits = within (length (take b.out_len b.info.items) + k) b.max_len (rw (← c.self.view_is, open_now) at c.requires.room) in
    sound_over b info c.settle.new.self (b.out_len + k) (b.idx + k) b.scratch_flags c.self.invariant open_now long (omega (arith, front)) there (omega (arith, c.self.invariant.opened)) (omega (arith, fits, wide)) c.settle.ensures.back
    (order_passed c.settle.new.self.known b.info.items info.items b.out_len b.idx k output input settled)
