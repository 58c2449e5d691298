use Rattle.std.specs.Vec.{with_items}
use Rattle.std.proofs.Common.{◌≡◌, ◌<◌, ◌+◌, true, length, take, drop, refl, rules, arith, ap, ◌∙◌}
use Rattle.std.proofs.lemmas.Grind.{common_steps}
use Rattle.buffer_glyphs.specs.declared.info.hb_glyph_info_t.{hb_glyph_info_t}
use Rattle.buffer_core.proofs.Open.{order_numbered, settled_open, sound_over}
use Rattle.buffer_core.proofs.Room.{some_ahead}
use Rattle.buffer_core.proofs.Slices.{all_put}
use Rattle.buffer_core.proofs.buffer.hb_buffer_t.pass_renumbered.Goals as goal
use Rattle.buffer_core.proofs.Changed.{front_long, front_before as front_within}
use Rattle.buffer_facts.proofs.Numbers.{at_most_by_test as within}

pub invariant_of-self : goal.invariant_of-self
invariant_of-self c =
    let b = c.self.inside in
    let open_now : b.have_output ≡ true = rw (← c.self.view_is) at c.requires.current.opened in
    let in_info : b.info.len ≡ length b.info.items = first_of (search rules, grind (arith, common_steps)) in
    let count : length c.deref_mut.result.now ≡ length b.info.items = ap length c.deref_mut.ensures.value in
    let info = with_items b.info c.put.new.glyphs in
    let put : info.items ≡ c.put.new.glyphs = all_put b.info c.put.new.glyphs c.put.new.glyphs in_info refl (c.put.ensures.len ∙ count) in
    let long : length info.items ≡ length b.info.items = ap length put ∙ c.put.ensures.len ∙ count in
    let there : b.idx < length b.info.items = some_ahead b.info.items b.idx (rw (← c.self.view_is) at c.requires.current.current) in
    let settled = settled_open b c.settle.new.self.known c.self.invariant open_now (λ m n. (rw c.deref.ensures.value at (c.settle.ensures.order m n))) in
    let output = ap (take (b.out_len + 1)) put ∙ (rw c.deref_mut.ensures.value at c.put.ensures.output) in
    let input = ap (drop (b.idx + 1)) put ∙ (rw c.deref_mut.ensures.value at c.put.ensures.input) in
    let front = front_within b c.self.invariant open_now in
    let wide = front_long b c.self.invariant open_now in
    let fits = within (length (take b.out_len b.info.items) + 1) b.max_len (rw (← c.self.view_is, open_now) at c.requires.room) in
    sound_over b info c.settle.new.self (b.out_len + 1) (b.idx + 1) b.scratch_flags c.self.invariant open_now long (omega (arith, front)) (omega (arith, there)) (omega (arith, c.self.invariant.opened)) (omega (arith, fits, wide)) c.settle.ensures.back
    (order_numbered c.settle.new.self.known b.info.items info.items b.out_len b.idx _ _ there (ap (λ (g : hb_glyph_info_t). g.cluster) c.index.ensures) output input settled)
