use Rattle.std.proofs.Common.{◌≡◌, false, min, length, take, refl, rules, arith, ap, sym, ◌∙◌}
use Rattle.std.proofs.lemmas.Grind.{common_steps}
use Rattle.buffer_glyphs.specs.Items.{item_of}
use Rattle.buffer_core.specs.Grouping.{with_picked_deleted}
use Rattle.buffer_core.specs.Inside.{sides_of}
use Rattle.buffer_core.specs.Merging.{with_has_glyph_flags}
use Rattle.buffer_core.specs.Sides.{Sides, items_of, origins_of, requests_breaks}
use Rattle.buffer_core.proofs.Grouped.{picked_items, picked_origins, picked_positions}
use Rattle.buffer_core.proofs.Picked.{picked_view}
use Rattle.buffer_core.proofs.Slices.{all_put, all_put_positions}
use Rattle.buffer_core.proofs.buffer.hb_buffer_t.delete_glyphs_inplace.Goals as goal

pub returns-clause-deleted : goal.returns-clause-deleted
returns-clause-deleted g c goes tells =
    let b = c.self.inside in
    let same : sides_of b ≡ c.args.self.now = c.self.view_is ∙ c.walked_order-known.ensures.same in
    let asked : c.asks_breaks-breaks.result ≡ requests_breaks (sides_of b) = c.asks_breaks-breaks.ensures ∙ ap requests_breaks (sym same) in
    let closed : b.have_output ≡ false = rw (← same) at c.requires.closed in
    let in_info : b.info.len ≡ length b.info.items = first_of (search rules, grind (arith, common_steps)) in
    let in_pos : b.pos.len ≡ length b.pos.items = first_of (search rules, grind (arith, common_steps)) in
    let walk = c.delete_within-kept in
    let wide : length walk.new.glyphs ≡ length b.info.items = first_of (search rules, grind (arith, common_steps)) in
    let long : length walk.new.positions ≡ length b.pos.items = first_of (search rules, grind (arith, common_steps)) in
    let glyphs = rw (c.deref_mut.ensures.value, c.deref_mut-2.ensures.value, asked) at (walk.ensures.glyphs goes tells) in
    let positions = rw (c.deref_mut.ensures.value, c.deref_mut-2.ensures.value, asked) at (walk.ensures.positions goes tells) in
    let marks = rw (c.deref_mut.ensures.value, c.deref_mut-2.ensures.value, asked) at (walk.ensures.marked goes tells) in
    let count : c.len.result ≡ length c.truncate.new.self.items = first_of (search rules, grind (arith, common_steps)) in
    picked_view b c.truncate.new.self c.truncate-2.new.self c.of-self-inside.result goes c.min-self-inside.result _ closed
    (c.truncate.ensures.items ∙ ap (take walk.result.0) (all_put b.info walk.new.glyphs walk.new.glyphs in_info refl wide) ∙ glyphs)
    (c.truncate-2.ensures.items ∙ ap (take walk.result.0) (all_put_positions b.pos walk.new.positions walk.new.positions in_pos refl long) ∙ positions)
    (c.min-self-inside.ensures ∙ ap (min b.idx) count) (c.add_has_glyph_flags-self-inside.ensures ∙ ap (λ m. with_has_glyph_flags m b.scratch_flags) marks)
    ∙ ap (with_picked_deleted goes) same

pub returns-clause-items : goal.returns-clause-items
returns-clause-items g c q tells = ap items_of (returns-clause-deleted g c (λ h. q (item_of h)) tells) ∙ picked_items q c.args.self.now

pub returns-clause-positions : goal.returns-clause-positions
returns-clause-positions g c q tells = ap (λ (s : Sides). s.positions) (returns-clause-deleted g c (λ h. q (item_of h)) tells) ∙ picked_positions q c.args.self.now

pub returns-clause-origins : goal.returns-clause-origins
returns-clause-origins g c q tells = ap origins_of (returns-clause-deleted g c (λ h. q (item_of h)) tells) ∙ picked_origins q c.args.self.now
