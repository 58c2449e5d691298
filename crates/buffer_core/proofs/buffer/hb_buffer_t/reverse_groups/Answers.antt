use Rattle.std.specs.Vec.{with_items}
use Rattle.std.proofs.Common.{◌≡◌, false, length, rules, arith, ap, sym, ◌∙◌}
use Rattle.std.proofs.lemmas.Grind.{common_steps}
use Rattle.buffer_glyphs.specs.Items.{item_of}
use Rattle.buffer_core.specs.Grouping.{with_groups_reversed}
use Rattle.buffer_core.specs.Inside.{sides_of}
use Rattle.buffer_core.specs.Merging.{with_has_glyph_flags}
use Rattle.buffer_core.specs.Sides.{Sides, all_glyphs, items_of, origins_of}
use Rattle.buffer_core.proofs.Grouped.{grouped_view, groups_items, groups_origins, groups_plain, groups_positions}
use Rattle.buffer_core.proofs.Slices.{all_put, all_put_positions}
use Rattle.buffer_core.proofs.buffer.hb_buffer_t.reverse_groups.Goals as goal

pub returns-clause-turned : goal.returns-clause-turned
returns-clause-turned g c joins decides =
    let b = c.self.inside in
    let same : sides_of b ≡ c.args.self.now = c.self.view_is ∙ c.walked_order-known.ensures.same in
    let closed : b.have_output ≡ false = rw (← same) at c.requires.closed in
    let in_info : b.info.len ≡ length b.info.items = first_of (search rules, grind (arith, common_steps)) in
    let in_pos : b.pos.len ≡ length b.pos.items = first_of (search rules, grind (arith, common_steps)) in
    let groups = c.reverse_groups-marked in
    let glyphs = rw (c.deref_mut.ensures.value, c.deref_mut-2.ensures.value) at (groups.ensures.glyphs joins decides) in
    let positions = rw (c.deref_mut.ensures.value, c.deref_mut-2.ensures.value) at (groups.ensures.positions joins decides) in
    let marks = rw (c.deref_mut.ensures.value, c.deref_mut-2.ensures.value) at (groups.ensures.marked joins decides) in
    let wide : length groups.new.glyphs ≡ length b.info.items = first_of (search rules, grind (arith, common_steps)) in
    let long : length groups.new.positions ≡ length b.pos.items = first_of (search rules, grind (arith, common_steps)) in
    grouped_view c.args.merge joins b (with_items b.info groups.new.glyphs) (with_items b.pos groups.new.positions) c.of-self-inside.result _ closed
    (all_put b.info groups.new.glyphs _ in_info glyphs (sym (ap length glyphs) ∙ wide)) (all_put_positions b.pos groups.new.positions _ in_pos positions (sym (ap length positions) ∙ long)) (c.add_has_glyph_flags-self-inside.ensures ∙ ap (λ m. with_has_glyph_flags m b.scratch_flags) marks)
    ∙ ap (with_groups_reversed c.args.merge joins) same

pub returns-clause-plain : goal.returns-clause-plain
returns-clause-plain g c joins decides off = ap all_glyphs (returns-clause-turned g c joins decides) ∙ groups_plain c.args.merge joins c.args.self.now off

pub returns-clause-items : goal.returns-clause-items
returns-clause-items g c q decides = ap items_of (returns-clause-turned g c (λ h k. q (item_of h) (item_of k)) decides) ∙ groups_items c.args.merge q c.args.self.now

pub returns-clause-positions : goal.returns-clause-positions
returns-clause-positions g c q decides = ap (λ (s : Sides). s.positions) (returns-clause-turned g c (λ h k. q (item_of h) (item_of k)) decides) ∙ groups_positions c.args.merge q c.args.self.now

pub returns-clause-origins : goal.returns-clause-origins
returns-clause-origins g c q decides = ap origins_of (returns-clause-turned g c (λ h k. q (item_of h) (item_of k)) decides) ∙ groups_origins c.args.merge q c.args.self.now
