-- A merge of a range keeps the order of clusters.
use Rattle.std.proofs.Common.{ℕ, ◌≡◌, ◌≤◌, inl, inr, Bool, true, false, List, sym, subst}
use Rattle.buffer_glyphs.specs.declared.info.hb_glyph_info_t.{hb_glyph_info_t}
use Rattle.buffer_glyphs.specs.declared.level.BufferClusterLevel.{BufferClusterLevel}
use Rattle.buffer_glyphs.specs.Items.{clusters}
use Rattle.buffer_glyphs.specs.Parts.{JoinParts}
use Rattle.buffer_glyphs.specs.Levels.{InList, Manner, Unites, Marks, Keeps, manner}
use Rattle.buffer_glyphs.specs.Merges.{numbers_merged_as, numbers_merged_at}
use Rattle.buffer_glyphs.specs.Order.{IsInOrder, IsOrdered}
use Rattle.buffer_glyphs.specs.Glyphs.{glyphs_merged_at}
use Rattle.buffer_glyphs.specs.Lemmas.Parts.{event_keeps_order}
use Rattle.buffer_glyphs.specs.Lemmas.Glyphs.{clusters_merged_at}
use Rattle.buffer_glyphs.specs.Lemmas.Merges.{merge_joins_ordered}
use Rattle.buffer_glyphs.proofs.Least.{in_order as ordered_from}

-- rising clusters stay rising, and falling ones falling
pub order_kept_as : (falls : Bool) (m : Manner) (from to : ℕ) (ns : List ℕ) → from ≤ to → IsInOrder falls ns → IsInOrder falls (numbers_merged_as m from to ns)
order_kept_as falls Unites from to ns le h = subst (IsInOrder falls) (sym (merge_joins_ordered from to ns le (ordered_from falls ns h))) (event_keeps_order (JoinParts from to) falls ns h)
order_kept_as falls Marks from to ns le h = h
order_kept_as falls Keeps from to ns le h = h

pub order_kept : (falls : Bool) (level : BufferClusterLevel) (from to : ℕ) (ns : List ℕ) → from ≤ to → IsInOrder falls ns → IsInOrder falls (numbers_merged_at level from to ns)
order_kept falls level from to ns le h = order_kept_as falls (manner InList level) from to ns le h

pub order_merged : (level : BufferClusterLevel) (from to : ℕ) (gs new : List hb_glyph_info_t) → from ≤ to → new ≡ glyphs_merged_at level from to gs → IsOrdered (clusters gs) → IsOrdered (clusters new)
order_merged level from to gs new le e o =
    let P : List hb_glyph_info_t → Type 0 = λ hs. IsOrdered (clusters hs) in
    let seen : clusters (glyphs_merged_at level from to gs) ≡ numbers_merged_at level from to (clusters gs) = clusters_merged_at level from to gs le in
    subst P (sym e) (subst IsOrdered (sym seen) (elim o [
      | inl rises ↦ inl (order_kept false level from to (clusters gs) le rises)
      | inr falls ↦ inr (order_kept true level from to (clusters gs) le falls)
    ]))

pub direction_merged : (level : BufferClusterLevel) (from to : ℕ) (gs new : List hb_glyph_info_t) → from ≤ to → new ≡ glyphs_merged_at level from to gs → (falls : Bool) → IsInOrder falls (clusters gs) → IsInOrder falls (clusters new)
direction_merged level from to gs new le e falls h =
    let P : List hb_glyph_info_t → Type 0 = λ hs. IsInOrder falls (clusters hs) in
    subst P (sym e) (subst (IsInOrder falls) (sym (clusters_merged_at level from to gs le)) (order_kept falls level from to (clusters gs) le h))
