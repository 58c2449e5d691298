use Rattle.std.specs.Prelude.{slice_range}
use Rattle.std.specs.List.{All}
use Rattle.std.proofs.Common.{ℕ, ◌≡◌, ◌<◌, ◌-◌, length, map, sym, ap, subst, ◌∙◌}
use Rattle.std.proofs.lemmas.List.Elements.{All-same}
use Rattle.buffer_lists.specs.declared.sorting.KeyedIndex.{KeyedIndex}
use Rattle.buffer_lists.specs.Sorting.{glyph_at}
use Rattle.buffer_lists.proofs.Spans.{put_same, sorted_is, sort_marks}
use Rattle.buffer_glyphs.specs.Order.{IsInOrder}
use Rattle.buffer_lists.proofs.Indices.{range_length}
use Rattle.buffer_lists.specs.Lemmas.KeyOrder.{all_in_order}
use Rattle.buffer_lists.proofs.sorting.sort_by_indices.Goals as goal

pub returns-clause-sorted : goal.returns-clause-sorted
returns-clause-sorted g c = λ k same.
    sorted_is c.args.level c.args.start c.args.end k c.args.glyphs.now c.merge_spans-marked.new.glyphs c.put_in_order-in_order.new.range c.deref-2.result.now c.in_ok-order.order.items c.deref.result.now c.merge_spans-marked.result
    c.requires.ordered (c.in_ok-order.ensures.keys k same) (c.deref.ensures.value ∙ c.in_ok-sort_indices.ensures.sorted) c.merge_spans-marked.ensures.merged
    (c.deref-2.ensures.value ∙ c.copy_from_slice.ensures.items) (c.put_in_order-in_order.ensures.put ∙ ap (map (λ (e : KeyedIndex). glyph_at c.deref-2.result.now e.index)) (c.deref-3.ensures.value ∙ sym c.deref.ensures.value))

pub returns-clause-marked : goal.returns-clause-marked
returns-clause-marked g c = λ k same.
    sort_marks c.args.level c.args.start c.args.end k c.args.glyphs.now c.merge_spans-marked.new.glyphs c.in_ok-order.order.items c.deref.result.now c.merge_spans-marked.result
    (c.in_ok-order.ensures.keys k same) (c.deref.ensures.value ∙ c.in_ok-sort_indices.ensures.sorted) c.merge_spans-marked.ensures.merged

pub returns-clause-order : goal.returns-clause-order
returns-clause-order g c = λ falls same ordered.
    subst (IsInOrder falls) (sym (put_same c.args.start (c.args.end - c.args.start) c.merge_spans-marked.new.glyphs c.put_in_order-in_order.new.range (c.put_in_order-in_order.ensures.same.0 same))) (c.merge_spans-marked.ensures.direction falls ordered)

pub put_in_order-in_order-requires-clause-within : goal.put_in_order-in_order-requires-clause-within
put_in_order-in_order-requires-clause-within g c =
    let P : KeyedIndex → Type 0 = λ e. e.index < length c.deref-2.result.now in
    let keyed = c.in_ok-order.order.items in
    let mid = c.merge_spans-marked.new.glyphs in
    let copied : c.deref-2.result.now ≡ slice_range mid c.args.start c.args.end = c.deref-2.ensures.value ∙ c.copy_from_slice.ensures.items in
    let long = sym (ap length copied ∙ range_length c.args.start c.args.end c.args.glyphs.now mid c.merge_spans-marked.auto.glyphs) in
    All-same P c.deref-3.result.now _ (c.deref-3.ensures.value ∙ c.in_ok-sort_indices.ensures.sorted)
    (all_in_order P (λ (e : KeyedIndex). e.key) keyed (subst (λ (n : ℕ). All (λ (e : KeyedIndex). e.index < n) keyed) long c.in_ok-order.ensures.within))
