-- A sort of a range is an event.
use Rattle.std.specs.Prelude.{slice_range, slice_index_or, option_map}
use Rattle.std.specs.List.{All, list_all, range_with_len}
use Rattle.std.proofs.Common.{ℕ, suc, zero, ◌≡◌, ◌≤◌, ◌<◌, ◌+◌, ◌-◌, ◌==◌, ◌||◌, max, nat_lt, Bool, true, false, if◌then◌else◌, List, [], ◌∷◌, ◌++◌, length, map, take, drop, arith, refl, ap, sym, subst, ◌∙◌, append_assoc}
use Rattle.std.proofs.lemmas.Bool.Decides.{nat_tests}
use Rattle.std.proofs.lemmas.Grind.{common_steps}
use Rattle.std.proofs.lemmas.List.{map-append, map-id, take-map, drop-map, length-append, length-map, length-drop, length-take-le}
use Rattle.std.proofs.lemmas.List.Folds.{list_all-map}
use Rattle.std.proofs.lemmas.List.Elements.{All-head, All-tail}
use Rattle.std.proofs.lemmas.List.FromFn.{length-range_with_len}
use Rattle.std.proofs.lemmas.List.Sorted.{length_permutation}
use Rattle.std.proofs.lemmas.Option.{slice_get-get_or, slice_get-map}
use Rattle.std.proofs.Math.Seq.{get_or-append_seam}
use Rattle.buffer_rows.specs.KeyOrder.{key_bound, key_order}
use Rattle.buffer_rows.proofs.Orders.{key_order_map}
use Rattle.buffer_glyphs.specs.declared.info.hb_glyph_info_t.{hb_glyph_info_t as Glyph}
use Rattle.buffer_glyphs.specs.declared.level.BufferClusterLevel.{BufferClusterLevel as Level}
use Rattle.buffer_glyphs.specs.Items.{Item, clusters, item_of, strip}
use Rattle.buffer_glyphs.specs.Merges.{least_number, merged_number}
use Rattle.buffer_glyphs.specs.Glyphs.{glyphs_merged_at, is_marked_at}
use Rattle.buffer_glyphs.specs.Origins.{Origin, Asks, InList, Manner, Unites, Marks, Keeps, manner, numbers, cast, added_outside, origins_merged, origins_merged_as, origin_of, origins, with_range_arranged, is_seam as is_seam_of, spans_from, spans, spans_merged as all_merged}
use Rattle.buffer_glyphs.specs.Events.{Sort, origins_after}
use Rattle.buffer_glyphs.specs.Lemmas.Origins.{cut_in_three, origins_of_merged_at, slice_seen}
use Rattle.buffer_lists.specs.declared.sorting.KeyedIndex.{KeyedIndex}
use Rattle.buffer_lists.specs.Events.{order_of}
use Rattle.buffer_lists.proofs.Indices.{indices_within}
use Rattle.buffer_lists.specs.Sorting.{keyed_indices_from, indices_by_key, is_seam, SpanMerge, span_merged, spans_merged, range_spanned, range_sorted, glyph_at, put_in_order}
use Rattle.buffer_lists.specs.Lemmas.KeyOrder.{all_below, by_key_moves}
use Rattle.buffer_lists.proofs.Lemmas.Neighbours.{no_glyph}
use Rattle.buffer_lists.specs.Lemmas.Picked.{AreAt, arranged_as}
use Rattle.buffer_lists.proofs.Lemmas.SortedItems.{spans_strip}
use Rattle.buffer_lists.proofs.Lemmas.Ranges.{map_twice}

-- ---- the order of the indices

abbrev keyed_index : KeyedIndex → ℕ
keyed_index e = e.index

-- the key that stands at an index, and the index
abbrev key_at_index : List ℕ → ℕ → KeyedIndex
key_at_index keys i = record { key = slice_index_or keys i 0; index = i }

keyed_all : (k : Glyph → ℕ) (front : List ℕ) (gs : List Glyph) → keyed_indices_from k (length front) gs ≡ map (key_at_index (front ++ map k gs)) (range_with_len (length front) (length gs))
keyed_all k front [] = refl
keyed_all k front (g ∷ gs) =
    let keys = front ++ k g ∷ map k gs in
    let long : length (front ++ k g ∷ []) ≡ length front + 1 = length-append front (k g ∷ []) in
    let rest = keyed_all k (front ++ k g ∷ []) gs in
    let at : keyed_indices_from k (length front + 1) gs ≡ map (key_at_index ((front ++ k g ∷ []) ++ map k gs)) (range_with_len (length front + 1) (length gs)) =
    subst (λ n. keyed_indices_from k n gs ≡ map (key_at_index ((front ++ k g ∷ []) ++ map k gs)) (range_with_len n (length gs))) long rest in
    let whole : keyed_indices_from k (length front + 1) gs ≡ map (key_at_index keys) (range_with_len (length front + 1) (length gs)) = at ∙ ap (λ ks. map (key_at_index ks) (range_with_len (length front + 1) (length gs))) (append_assoc front (k g ∷ []) (map k gs)) in
    let first : k g ≡ slice_index_or keys (length front) 0 = sym (get_or-append_seam front (k g) (map k gs) 0) in
    ap (λ (n : ℕ). record { key = n; index = length front } ∷ keyed_indices_from k (length front + 1) gs) first ∙ ap (λ es. key_at_index keys (length front) ∷ es) whole

indices_are : (k : Glyph → ℕ) (gs : List Glyph) → map keyed_index (indices_by_key k gs) ≡ order_of (map k gs)
indices_are k gs =
    let keys = map k gs in
    let indices = range_with_len 0 (length gs) in
    ap (λ es. map keyed_index (key_order (λ (e : KeyedIndex). e.key) es)) (keyed_all k [] gs) ∙ ap (map keyed_index) (key_order_map (λ (e : KeyedIndex). e.key) (key_at_index keys) indices)
    ∙ map_twice keyed_index (key_at_index keys) (key_order (λ i. slice_index_or keys i 0) indices) ∙ map-id (key_order (λ i. slice_index_or keys i 0) indices)
    ∙ ap (λ n. key_order (λ i. slice_index_or keys i 0) (range_with_len 0 n)) (sym (length-map gs k))

-- an order has each index once
pub order_length : (keys : List ℕ) → length (order_of keys) ≡ length keys
order_length keys =
    let key : ℕ → ℕ = λ i. slice_index_or keys i 0 in
    let indices = range_with_len 0 (length keys) in
    length_permutation indices (order_of keys) (by_key_moves key (key_bound key indices) indices (all_below key (key_bound key indices) indices (omega arith))) ∙ length-range_with_len 0 (length keys)

-- ---- the spans

seam_same : (es : List KeyedIndex) (i : ℕ) → is_seam_of (map keyed_index es) i ≡ is_seam es i
seam_same es i = ap (list_all (λ j. nat_lt j i)) (take-map keyed_index i es) ∙ list_all-map (λ j. nat_lt j i) keyed_index (take i es)

cast_same : (o : Origin) → cast o.cluster 0 o ≡ o
cast_same o = let same : (o.cluster == o.cluster) ≡ true = grind (arith, common_steps) in rw same refl

merged_none : (n : ℕ) → merged_number [] n ≡ n
merged_none n = refl

merged_one : (m n : ℕ) → merged_number (m ∷ []) n ≡ n
merged_one m n = grind (arith, nat_tests, common_steps)

all_cast : (range : List ℕ) (os : List Origin) → ((n : ℕ) → merged_number range n ≡ n) → origins_merged range os ≡ os
all_cast range [] same = refl
all_cast range (o ∷ os) same = rw (same o.cluster, cast_same o, all_cast range os same) refl

-- the merge of one index changes nothing
lone_united : (from : ℕ) (os : List Origin) → origins_merged_as Unites from (from + 1) os ≡ os
lone_united from os =
    let one : from + 1 - from ≡ 1 = omega arith in
    ap (λ n. origins_merged (take n (drop from (numbers os))) os) one ∙ by_rest (drop from (numbers os))
  where
    by_rest : (ns : List ℕ) → origins_merged (take 1 ns) os ≡ os
    by_rest [] = all_cast [] os merged_none
    by_rest (n ∷ ns) = all_cast (n ∷ []) os (merged_one n)

lone_marked : (from : ℕ) (os : List Origin) → origins_merged_as Marks from (from + 1) os ≡ os
lone_marked from os =
    let one : from + 1 - from ≡ 1 = omega arith in
    let range = slice_range os from (from + 1) in
    ap (λ ns. take from os ++ map (added_outside 3 (least_number ns)) range ++ drop (max from (from + 1)) os) (sym (slice_seen (λ (o : Origin). o.cluster) from (from + 1) os))
    ∙ ap (λ n. take from os ++ map (added_outside 3 (least_number (numbers (take n (drop from os))))) (take n (drop from os)) ++ drop (max from (from + 1)) os) one
    ∙ ap (λ qs. take from os ++ qs ++ drop (max from (from + 1)) os) (by_rest (drop from os))
    ∙ ap (λ n. take from os ++ take n (drop from os) ++ drop (max from (from + 1)) os) (sym one) ∙ cut_in_three from (from + 1) os
  where
    by_rest : (qs : List Origin) → map (added_outside 3 (least_number (numbers (take 1 qs)))) (take 1 qs) ≡ take 1 qs
    by_rest [] = refl
    by_rest (q ∷ qs) = let same : (q.cluster == q.cluster) ≡ true = grind (arith, common_steps) in rw same refl

pub lone_merged : (m : Manner) (from : ℕ) (os : List Origin) → origins_merged_as m from (from + 1) os ≡ os
lone_merged Unites from os = lone_united from os
lone_merged Marks from os = lone_marked from os
lone_merged Keeps from os = refl

span_origins : (level : Level) (from to : ℕ) (s : SpanMerge) → from < to → origins (span_merged level from to s).glyphs ≡ origins_merged_as (manner InList level) from to (origins s.glyphs)
span_origins level from to s lt = by_test (nat_lt (from + 1) to) refl
  where
    by_test : (t : Bool) → nat_lt (from + 1) to ≡ t → origins (if t then record { glyphs = glyphs_merged_at level from to s.glyphs; is_marked = s.is_marked || is_marked_at level from to (clusters s.glyphs) } else s).glyphs ≡ origins_merged_as (manner InList level) from to (origins s.glyphs)
    by_test true e = origins_of_merged_at level from to s.glyphs (omega arith)
    by_test false e =
        let one : from + 1 ≡ to = grind (arith, nat_tests, e, lt) in
        sym (lone_merged (manner InList level) from (origins s.glyphs)) ∙ ap (λ n. origins_merged_as (manner InList level) from n (origins s.glyphs)) one

spans_origins : (level : Level) (start : ℕ) (es : List KeyedIndex) (left begin index : ℕ) (s : SpanMerge) → begin ≤ index
    → origins (spans_merged level start es begin index left s).glyphs ≡ all_merged (manner InList level) start (spans_from (map keyed_index es) begin index left) (origins s.glyphs)
spans_origins level start es zero begin index s le = refl
spans_origins level start es (suc left) begin index s le =
    let m = manner InList level in
    let order = map keyed_index es in
    by_test (is_seam es (index + 1)) (spans_origins level start es left begin (index + 1) s (omega arith))
    (spans_origins level start es left (index + 1) (index + 1) (span_merged level (start + begin) (start + (index + 1)) s) (omega arith))
    ∙ ap (λ t. all_merged m start (if t then record { from = begin; to = index + 1 } ∷ spans_from order (index + 1) (index + 1) left else spans_from order begin (index + 1) left) (origins s.glyphs)) (sym (seam_same es (index + 1)))
  where
    by_test : (t : Bool) → origins (spans_merged level start es begin (index + 1) left s).glyphs ≡ all_merged (manner InList level) start (spans_from (map keyed_index es) begin (index + 1) left) (origins s.glyphs)
        → origins (spans_merged level start es (index + 1) (index + 1) left (span_merged level (start + begin) (start + (index + 1)) s)).glyphs ≡ all_merged (manner InList level) start (spans_from (map keyed_index es) (index + 1) (index + 1) left) (origins (span_merged level (start + begin) (start + (index + 1)) s).glyphs)
        → origins (if t then spans_merged level start es (index + 1) (index + 1) left (span_merged level (start + begin) (start + (index + 1)) s) else spans_merged level start es begin (index + 1) left s).glyphs
        ≡ all_merged (manner InList level) start (if t then record { from = begin; to = index + 1 } ∷ spans_from (map keyed_index es) (index + 1) (index + 1) left else spans_from (map keyed_index es) begin (index + 1) left) (origins s.glyphs)
    by_test true on off = off ∙ ap (all_merged (manner InList level) start (spans_from (map keyed_index es) (index + 1) (index + 1) left)) (span_origins level (start + begin) (start + (index + 1)) s (omega arith))
    by_test false on off = on

-- ---- the order

taken_at : (range : List Glyph) (es : List KeyedIndex) → All (λ (e : KeyedIndex). e.index < length range) es → AreAt (origins range) (map keyed_index es) (origins (map (λ (e : KeyedIndex). glyph_at range e.index) es))
taken_at range [] h = tt
taken_at range (e ∷ es) h =
    let lt : e.index < length range = All-head (λ (f : KeyedIndex). f.index < length range) e es h in
    (slice_get-map origin_of range e.index ∙ ap (λ o. option_map origin_of o) (slice_get-get_or range e.index no_glyph lt), taken_at range es (All-tail (λ (f : KeyedIndex). f.index < length range) e es h))

put_origins : (start end : ℕ) (es : List KeyedIndex) (gs : List Glyph) → start ≤ end → end ≤ length gs → length es ≡ end - start → All (λ (e : KeyedIndex). e.index < length (slice_range gs start end)) es
    → origins (put_in_order start end es gs) ≡ with_range_arranged start (map keyed_index es) (origins gs)
put_origins start end es gs le within long h =
    let range = slice_range gs start end in
    let order = map keyed_index es in
    let put = map (λ (e : KeyedIndex). glyph_at range e.index) es in
    let many : length order ≡ end - start = length-map es keyed_index ∙ long in
    let there : start + length order ≡ end = omega arith in
    let same : take (length order) (drop start (origins gs)) ≡ origins range = ap (λ n. take n (drop start (origins gs))) many ∙ sym (slice_seen origin_of start end gs) in
    let at : AreAt (take (length order) (drop start (origins gs))) order (origins put) = subst (λ os. AreAt os order (origins put)) (sym same) (taken_at range es h) in
    map-append origin_of (take start gs ++ put) (drop end gs) ∙ ap (λ os. os ++ origins (drop end gs)) (map-append origin_of (take start gs) put ∙ ap (λ os. os ++ origins put) (sym (take-map origin_of start gs)))
    ∙ ap (λ os. take start (origins gs) ++ origins put ++ os) (sym (drop-map origin_of end gs)) ∙ ap (λ n. take start (origins gs) ++ origins put ++ drop n (origins gs)) (sym there)
    ∙ sym (arranged_as start order (origins put) (origins gs) at (omega (arith, there, within, length-map gs origin_of)))

items_keyed : (k : Item → ℕ) (gs : List Glyph) → map (λ g. k (item_of g)) gs ≡ map k (strip gs)
items_keyed k gs = sym (map_twice k item_of gs)

-- the origins of the glyphs that a sort leaves
pub sort_is_event : (asks : Asks) (level : Level) (start end : ℕ) (k : Item → ℕ) (gs : List Glyph) → start ≤ end → end ≤ length gs
    → origins (range_sorted level start end (λ g. k (item_of g)) gs).glyphs ≡ origins_after asks level (Sort start (order_of (map k (slice_range (strip gs) start end))) ∷ []) (origins gs)
sort_is_event asks level start end k gs le within =
    let key : Glyph → ℕ = λ g. k (item_of g) in
    let m = manner InList level in
    let range = slice_range gs start end in
    let es = indices_by_key key range in
    let order = map keyed_index es in
    let whole : SpanMerge = record { glyphs = gs; is_marked = false } in
    let mid = (range_spanned level start es gs).glyphs in
    let wide : length range ≡ end - start = length-take-le (end - start) (drop start gs) (omega (arith, length-drop start gs)) in
    let kept = spans_strip level start es (length es) 0 0 whole (omega arith) in
    let as_long : length mid ≡ length gs = sym (length-map mid item_of) ∙ ap length kept ∙ length-map gs item_of in
    let same_range : length (slice_range mid start end) ≡ end - start = length-take-le (end - start) (drop start mid) (omega (arith, as_long, length-drop start mid)) in
    let is : order ≡ order_of (map key range) = indices_are key range in
    let many : length es ≡ end - start = sym (length-map es keyed_index) ∙ ap length is ∙ order_length (map key range) ∙ length-map range key ∙ wide in
    let inside : All (λ (e : KeyedIndex). e.index < length (slice_range mid start end)) es = subst (λ n. All (λ (e : KeyedIndex). e.index < n) es) (wide ∙ sym same_range) (indices_within key range) in
    let items : map key range ≡ map k (slice_range (strip gs) start end) = items_keyed k range ∙ ap (map k) (slice_seen item_of start end gs) in
    put_origins start end es mid le (omega (arith, as_long, within)) many inside
    ∙ ap (with_range_arranged start order) (spans_origins level start es (length es) 0 0 whole (omega arith) ∙ ap (λ n. all_merged m start (spans_from order 0 0 n) (origins gs)) (sym (length-map es keyed_index)))
    ∙ ap (λ is. with_range_arranged start is (all_merged m start (spans is) (origins gs))) (is ∙ ap order_of items)
