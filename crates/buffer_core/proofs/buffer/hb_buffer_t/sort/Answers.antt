use Rattle.std.specs.Vec.{with_items}
use Rattle.std.proofs.Common.{◌≡◌, false, length, refl, rules, arith, ap, sym, ◌∙◌}
use Rattle.std.proofs.lemmas.Grind.{common_steps}
use Rattle.std.proofs.lemmas.List.{take-append-drop}
use Rattle.buffer_glyphs.specs.Items.{clusters, item_of}
use Rattle.buffer_core.specs.Inside.{sides_of}
use Rattle.buffer_core.specs.Merging.{with_has_glyph_flags}
use Rattle.buffer_core.specs.Sides.{items_of, origins_of}
use Rattle.buffer_core.specs.Sorting.{with_range_sorted}
use Rattle.buffer_core.proofs.Grouped.{sorted_items, sorted_origins, sorted_view}
use Rattle.buffer_core.proofs.Ordered.{sound_as_many}
use Rattle.buffer_core.proofs.Slices.{all_put}
use Rattle.buffer_core.proofs.buffer.hb_buffer_t.sort.Goals as goal

pub returns-clause-sorted : goal.returns-clause-sorted
returns-clause-sorted g c k gives =
    let b = c.self.inside in
    let same : sides_of b ≡ c.args.self.now = c.self.view_is ∙ c.order_before_merges-known.ensures.same in
    let closed : b.have_output ≡ false = rw (← same) at c.requires.closed in
    let in_info : b.info.len ≡ length b.info.items = first_of (search rules, grind (arith, common_steps)) in
    let wide : length c.sort.new.glyphs ≡ length b.info.items = first_of (search rules, grind (arith, common_steps)) in
    let glyphs = rw c.deref_mut.ensures.value at (c.in_ok-sorted.ensures.sorted k gives) in
    let marks = rw c.deref_mut.ensures.value at (c.in_ok-sorted.ensures.marked k gives) in
    sorted_view b (with_items b.info c.sort.new.glyphs) c.of-self-inside.result c.args.start c.args.end k _ closed c.self.invariant.cursor
    (all_put b.info c.sort.new.glyphs _ in_info glyphs (sym (ap length glyphs) ∙ wide)) (c.add_has_glyph_flags-self-inside.ensures ∙ ap (λ m. with_has_glyph_flags m b.scratch_flags) marks)
    ∙ ap (with_range_sorted c.args.start c.args.end k) same

pub returns-clause-items : goal.returns-clause-items
returns-clause-items g c k gives = ap items_of (returns-clause-sorted g c (λ h. k (item_of h)) gives) ∙ sorted_items c.args.start c.args.end k c.args.self.now

pub returns-clause-origins : goal.returns-clause-origins
returns-clause-origins g c k gives = ap origins_of (returns-clause-sorted g c (λ h. k (item_of h)) gives) ∙ sorted_origins c.args.start c.args.end k c.args.self.now c.requires.ordered c.requires.within

pub invariant_of-self-2 : goal.invariant_of-self-2
invariant_of-self-2 g c =
    let b = c.self.inside in
    let same : sides_of b ≡ c.args.self.now = c.self.view_is ∙ c.order_before_merges-known.ensures.same in
    let closed : b.have_output ≡ false = rw (← same) at c.requires.closed in
    let in_info : b.info.len ≡ length b.info.items = first_of (search rules, grind (arith, common_steps)) in
    let wide : length c.sort.new.glyphs ≡ length b.info.items = first_of (search rules, grind (arith, common_steps)) in
    let items = all_put b.info c.sort.new.glyphs c.sort.new.glyphs in_info refl wide in
    let long : length (with_items b.info c.sort.new.glyphs).items ≡ length b.info.items = ap length items ∙ wide in
    let walked = rw (← same, closed, take-append-drop b.idx b.info.items) at c.order_before_merges-known.ensures.order in
    let kept = c.if_kept-order.ensures (clusters b.info.items) (clusters c.sort.new.glyphs) (λ falls kept o. c.in_ok-sorted.ensures.order falls kept (rw c.deref_mut.ensures.value o)) walked in
    sound_as_many b (with_items b.info c.sort.new.glyphs) c.of-self-inside.result _ c.self.invariant long (rw (closed, c.of-self-inside.ensures.known, c.of-self-inside.ensures.lent, items) kept)
