-- What is known of the order of clusters, after merges, copies and a deletion.
use Rattle.std.proofs.Common.{ℕ, ◌≡◌, ◌≤◌, ◌<◌, ◌+◌, inl, inr, Bool, true, false, List, [], ◌∷◌, ◌++◌, length, drop, arith, refl, ap, sym, subst, ◌∙◌}
use Rattle.std.proofs.lemmas.List.{map-append, take-append-le, drop-append-le, length-drop}
use Rattle.std.specs.Prelude.{◌-◌, slice_range}
use Rattle.std.proofs.Math.Seq.{take-append_seam, drop-append_seam, drop-append-add}
use Rattle.buffer_glyphs.specs.declared.info.hb_glyph_info_t.{hb_glyph_info_t}
use Rattle.buffer_glyphs.specs.declared.level.BufferClusterLevel.{BufferClusterLevel}
use Rattle.buffer_glyphs.specs.declared.level.BufferClusterLevel.TheVariants.{MonotoneGraphemes, MonotoneCharacters, Characters, Graphemes}
use Rattle.buffer_glyphs.specs.Items.{clusters}
use Rattle.buffer_glyphs.specs.Parts.{JoinParts, numbers_replaced, range_of}
use Rattle.buffer_glyphs.specs.Merges.{merged_number, numbers_merged_at}
use Rattle.buffer_glyphs.specs.Order.{IsInOrder, IsOrdered}
use Rattle.buffer_glyphs.specs.Glyphs.{beside_merged, glyphs_merged, glyphs_merged_at, in_cluster}
use Rattle.buffer_glyphs.specs.Replacements.{glyphs_replaced}
use Rattle.buffer_glyphs.specs.Deletions.{number_deleted}
use Rattle.buffer_glyphs.specs.Deleting.{Deletes}
use Rattle.buffer_glyphs.proofs.OneDeleted.{left_clusters, order_deleted}
use Rattle.buffer_glyphs.specs.Lemmas.Drawn.{drawn_replaced}
use Rattle.buffer_glyphs.specs.Lemmas.Parts.{event_keeps_order, order_drawn}
use Rattle.buffer_glyphs.specs.Lemmas.Glyphs.{merged_at_beyond, clusters_merged, clusters_merged_at, range_clusters}
use Rattle.buffer_glyphs.specs.Lemmas.Merges.{merge_joins}
use Rattle.buffer_glyphs.specs.Lemmas.Replacements.{clusters_replaced}
use Rattle.buffer_lists.specs.declared.order.KnownOrder.{KnownOrder}
use Rattle.buffer_lists.specs.declared.order.KnownOrder.TheVariants.{Unknown, Rising, Falling}
use Rattle.buffer_lists.specs.Known.{HasOrder, is_known}
use Rattle.buffer_lists.specs.Copies.{with_copies}
use Rattle.buffer_glyphs.proofs.Least.{in_order as ordered_from}
use Rattle.buffer_glyphs.proofs.Merging.{order_kept as merge_order}

pub known_ordered : (o : KnownOrder) (ns : List ℕ) → is_known o ≡ true → HasOrder o ns → IsOrdered ns
known_ordered Unknown ns e h = cc
known_ordered Rising ns e h = inl h
known_ordered Falling ns e h = inr h

order_merged_at : (o : KnownOrder) (level : BufferClusterLevel) (from to : ℕ) (ns : List ℕ) → from ≤ to → HasOrder o ns → HasOrder o (numbers_merged_at level from to ns)
order_merged_at Unknown level from to ns le h = tt
order_merged_at Rising level from to ns le h = merge_order false level from to ns le h
order_merged_at Falling level from to ns le h = merge_order true level from to ns le h

-- a range of the second of two lists was merged
pub order_merged : (o : KnownOrder) (level : BufferClusterLevel) (i j : ℕ) (behind ahead new_behind new_ahead : List hb_glyph_info_t) → i ≤ j → new_behind ≡ beside_merged level (range_of i j (clusters ahead)) behind → new_ahead ≡ glyphs_merged_at level i j ahead
    → HasOrder o (clusters behind ++ clusters ahead) → HasOrder o (clusters new_behind ++ clusters new_ahead)
order_merged o level i j behind ahead new_behind new_ahead le b a h =
    let f : hb_glyph_info_t → ℕ = λ g. g.cluster in
    let n = length behind in
    let before : HasOrder o (clusters (behind ++ ahead)) = rw (map-append f behind ahead) h in
    let after = order_merged_at o level (n + i) (n + j) (clusters (behind ++ ahead)) (omega arith) before in
    subst (HasOrder o) (sym (clusters_merged_at level (n + i) (n + j) (behind ++ ahead) (omega arith)) ∙ ap clusters (merged_at_beyond level behind ahead i j)
    ∙ map-append f (beside_merged level (range_of i j (clusters ahead)) behind) (glyphs_merged_at level i j ahead) ∙ ap (λ gs. clusters gs ++ clusters (glyphs_merged_at level i j ahead)) (sym b) ∙ ap (λ gs. clusters new_behind ++ clusters gs) (sym a)) after

-- a range within the first of two lists
pub stretch_first : (xs ys : List hb_glyph_info_t) (start end : ℕ) → start ≤ end → end ≤ length xs → range_of start end (clusters (xs ++ ys)) ≡ range_of start end (clusters xs)
stretch_first xs ys start end le within =
    let long = length-drop start xs in
    let few : end - start ≤ length (drop start xs) = omega (arith, long) in
    let inner : slice_range (xs ++ ys) start end ≡ slice_range xs start end = rw (drop-append-le start xs ys (omega (arith, le, within))) (take-append-le (end - start) (drop start xs) ys few) in
    range_clusters (xs ++ ys) start end ∙ ap clusters inner ∙ sym (range_clusters xs start end)

-- the clusters of a range of the first of two lists became one on both
pub order_united : (o : KnownOrder) (start end : ℕ) (behind ahead new_behind new_ahead : List hb_glyph_info_t) → start ≤ end → end ≤ length behind
    → new_behind ≡ glyphs_merged (range_of start end (clusters behind)) behind → new_ahead ≡ glyphs_merged (range_of start end (clusters behind)) ahead
    → HasOrder o (clusters behind ++ clusters ahead) → HasOrder o (clusters new_behind ++ clusters new_ahead)
order_united o start end behind ahead new_behind new_ahead le within b a h =
    let f : hb_glyph_info_t → ℕ = λ g. g.cluster in
    let range = range_of start end (clusters behind) in
    let before : HasOrder o (clusters (behind ++ ahead)) = rw (map-append f behind ahead) h in
    let after = order_merged_at o MonotoneGraphemes start end (clusters (behind ++ ahead)) le before in
    let both : glyphs_merged (range_of start end (clusters (behind ++ ahead))) (behind ++ ahead) ≡ new_behind ++ new_ahead =
    ap (λ r. glyphs_merged r (behind ++ ahead)) (stretch_first behind ahead start end le within) ∙ map-append (λ (g : hb_glyph_info_t). in_cluster (merged_number range g.cluster) g) behind ahead
    ∙ ap (λ gs. gs ++ glyphs_merged range ahead) (sym b) ∙ ap (λ gs. new_behind ++ gs) (sym a) in
    subst (HasOrder o) (sym (clusters_merged (range_of start end (clusters (behind ++ ahead))) (behind ++ ahead)) ∙ ap clusters both ∙ map-append f new_behind new_ahead) after

order_replaced_at : (o : KnownOrder) (at taken given : ℕ) (ns : List ℕ) → HasOrder o ns → HasOrder o (numbers_replaced at taken given ns)
order_replaced_at Unknown at taken given ns h = tt
order_replaced_at Rising at taken given ns h = order_drawn false (drawn_replaced at taken given ns) h
order_replaced_at Falling at taken given ns h = order_drawn true (drawn_replaced at taken given ns) h

-- glyphs ahead made room for copies behind
pub order_copied : (o : KnownOrder) (taken : ℕ) (numbers : List ℕ) (behind ahead new_behind : List hb_glyph_info_t) → new_behind ≡ with_copies numbers ahead behind
    → HasOrder o (clusters behind ++ clusters ahead) → HasOrder o (clusters new_behind ++ clusters (drop taken ahead))
order_copied o taken numbers behind ahead new_behind b h =
    let f : hb_glyph_info_t → ℕ = λ g. g.cluster in
    let whole : HasOrder o (clusters (behind ++ ahead)) = rw (map-append f behind ahead) h in
    let after = order_replaced_at o (length behind) taken (length numbers) (clusters (behind ++ ahead)) whole in
    let all : glyphs_replaced (length behind) taken numbers (behind ++ ahead) ≡ new_behind ++ drop taken ahead = rw (take-append_seam behind ahead, drop-append_seam behind ahead, drop-append-add behind ahead taken, b) refl in
    subst (HasOrder o) (sym (clusters_replaced (length behind) taken numbers (behind ++ ahead)) ∙ ap clusters all ∙ map-append f new_behind (drop taken ahead)) after

known_deleted : (o : KnownOrder) (level : BufferClusterLevel) (front : List ℕ) (n : ℕ) (back : List ℕ) → HasOrder o (front ++ n ∷ back) → HasOrder o (number_deleted level front n back)
known_deleted Unknown level front n back h = tt
known_deleted Rising level front n back h = order_deleted false level front n back h
known_deleted Falling level front n back h = order_deleted true level front n back h

-- the first glyph of the second of two lists went
pub order_gone : (o : KnownOrder) (level : BufferClusterLevel) (behind ahead new_behind new_ahead : List hb_glyph_info_t) (m : Bool) → 0 < length ahead → Deletes level behind ahead new_behind new_ahead m
    → HasOrder o (clusters behind ++ clusters ahead) → HasOrder o (clusters new_behind ++ clusters new_ahead)
order_gone o level behind [] new_behind new_ahead m some gone h = absurd (omega arith)
order_gone o level behind (g ∷ back) new_behind new_ahead m some gone h = subst (HasOrder o) (sym (left_clusters level behind (g ∷ back) new_behind new_ahead m g back refl gone)) (known_deleted o level (clusters behind) g.cluster (clusters back) h)
