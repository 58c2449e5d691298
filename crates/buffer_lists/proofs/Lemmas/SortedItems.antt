-- The items of a sorted range.
use Rattle.std.specs.Prelude.{slice_range}
use Rattle.std.proofs.Common.{ℕ, suc, zero, ◌≡◌, ◌≤◌, ◌+◌, ◌-◌, ◌||◌, nat_lt, Bool, true, false, if◌then◌else◌, List, [], ◌∷◌, ◌++◌, length, map, take, drop, get_or, arith, refl, ap, sym, subst, ◌∙◌, append_assoc}
use Rattle.std.proofs.lemmas.List.{map-append, take-map, drop-map, length-append}
use Rattle.std.proofs.Math.Seq.{get_or-append_seam}
use Rattle.buffer_glyphs.specs.declared.info.hb_glyph_info_t.{hb_glyph_info_t as Glyph}
use Rattle.buffer_glyphs.specs.declared.level.BufferClusterLevel.{BufferClusterLevel as Level}
use Rattle.buffer_glyphs.specs.Items.{Item, item_of, strip, clusters}
use Rattle.buffer_glyphs.specs.Glyphs.{glyphs_merged_at, is_marked_at}
use Rattle.buffer_glyphs.proofs.Lists.{get_or_mapped}
use Rattle.buffer_glyphs.specs.Lemmas.Glyphs.{strip_merged_at}
use Rattle.buffer_rows.specs.KeyOrder.{key_order}
use Rattle.buffer_rows.proofs.Orders.{Agree, key_order_agree, key_order_map}
use Rattle.buffer_lists.specs.declared.sorting.KeyedIndex.{KeyedIndex}
use Rattle.buffer_lists.specs.Sorting.{keyed_indices_from, indices_by_key, is_seam, SpanMerge, span_merged, spans_merged, range_spanned, range_sorted, glyph_at, put_in_order}
use Rattle.buffer_lists.proofs.Lemmas.Neighbours.{no_glyph}

-- what stands at an index of items
abbrev item_at : List Item → KeyedIndex → Item
item_at xs e = get_or xs e.index (item_of no_glyph)

here : (front : List Item) (x : Item) (xs : List Item) (i : ℕ) → length front ≡ i → get_or (front ++ x ∷ xs) i (item_of no_glyph) ≡ x
here front x xs i e = ap (λ n. get_or (front ++ x ∷ xs) n (item_of no_glyph)) (sym e) ∙ get_or-append_seam front x xs (item_of no_glyph)

pushed : (front : List Item) (x : Item) (xs : List Item) → (front ++ x ∷ []) ++ xs ≡ front ++ x ∷ xs
pushed front x xs = append_assoc front (x ∷ []) xs

one_longer : (front : List Item) (x : Item) (i : ℕ) → length front ≡ i → length (front ++ x ∷ []) ≡ i + 1
one_longer front x i e = omega (arith, e, length-append front (x ∷ []))

placed_from : (k : Glyph → ℕ) (gs : List Glyph) (front : List Item) (i : ℕ) → length front ≡ i → map (item_at (front ++ strip gs)) (keyed_indices_from k i gs) ≡ strip gs
placed_from k [] front i e = refl
placed_from k (g ∷ gs) front i e =
    let rest = placed_from k gs (front ++ item_of g ∷ []) (i + 1) (one_longer front (item_of g) i e) in
    let moved = subst (λ (xs : List Item). map (item_at xs) (keyed_indices_from k (i + 1) gs) ≡ strip gs) (pushed front (item_of g) (strip gs)) rest in
    ap (λ (x : Item). x ∷ map (item_at (front ++ item_of g ∷ strip gs)) (keyed_indices_from k (i + 1) gs)) (here front (item_of g) (strip gs) i e) ∙ ap (λ xs. item_of g ∷ xs) moved

agree_from : (key : Item → ℕ) (gs : List Glyph) (front : List Item) (i : ℕ) → length front ≡ i → Agree (λ (e : KeyedIndex). e.key) (λ (e : KeyedIndex). key (item_at (front ++ strip gs) e)) (keyed_indices_from (λ g. key (item_of g)) i gs)
agree_from key [] front i e = tt
agree_from key (g ∷ gs) front i e =
    let rest = agree_from key gs (front ++ item_of g ∷ []) (i + 1) (one_longer front (item_of g) i e) in
    let moved = subst (λ (xs : List Item). Agree (λ (e : KeyedIndex). e.key) (λ (e : KeyedIndex). key (item_at xs e)) (keyed_indices_from (λ h. key (item_of h)) (i + 1) gs)) (pushed front (item_of g) (strip gs)) rest in
    (ap key (sym (here front (item_of g) (strip gs) i e)), moved)

-- items at the indices by key are the items in the order of the key
items_by_key : (key : Item → ℕ) (gs : List Glyph) → map (item_at (strip gs)) (indices_by_key (λ g. key (item_of g)) gs) ≡ key_order key (strip gs)
items_by_key key gs =
    let keyed = keyed_indices_from (λ g. key (item_of g)) 0 gs in
    ap (map (item_at (strip gs))) (key_order_agree (λ (e : KeyedIndex). e.key) (λ (e : KeyedIndex). key (item_at (strip gs) e)) keyed (agree_from key gs [] 0 refl))
    ∙ sym (key_order_map key (item_at (strip gs)) keyed) ∙ ap (key_order key) (placed_from (λ g. key (item_of g)) gs [] 0 refl)

span_strip : (level : Level) (from to : ℕ) (s : SpanMerge) → from ≤ to → strip (span_merged level from to s).glyphs ≡ strip s.glyphs
span_strip level from to s le = by_test (nat_lt (from + 1) to)
  where
    by_test : (t : Bool) → strip (if t then record { glyphs = glyphs_merged_at level from to s.glyphs; is_marked = s.is_marked || is_marked_at level from to (clusters s.glyphs) } else s).glyphs ≡ strip s.glyphs
    by_test true = strip_merged_at level from to s.glyphs le
    by_test false = refl

pub spans_strip : (level : Level) (start : ℕ) (order : List KeyedIndex) (left begin index : ℕ) (s : SpanMerge) → begin ≤ index → strip (spans_merged level start order begin index left s).glyphs ≡ strip s.glyphs
spans_strip level start order zero begin index s le = refl
spans_strip level start order (suc left) begin index s le = by_test (is_seam order (index + 1)) (spans_strip level start order left begin (index + 1) s (omega arith)) (spans_strip level start order left (index + 1) (index + 1) (span_merged level (start + begin) (start + (index + 1)) s) (omega arith))
  where
    by_test : (t : Bool) → strip (spans_merged level start order begin (index + 1) left s).glyphs ≡ strip s.glyphs
        → strip (spans_merged level start order (index + 1) (index + 1) left (span_merged level (start + begin) (start + (index + 1)) s)).glyphs ≡ strip (span_merged level (start + begin) (start + (index + 1)) s).glyphs
        → strip (if t then spans_merged level start order (index + 1) (index + 1) left (span_merged level (start + begin) (start + (index + 1)) s) else spans_merged level start order begin (index + 1) left s).glyphs ≡ strip s.glyphs
    by_test true on off = off ∙ span_strip level (start + begin) (start + (index + 1)) s (omega arith)
    by_test false on off = on

pub strip_range : (start end : ℕ) (gs : List Glyph) → strip (slice_range gs start end) ≡ slice_range (strip gs) start end
strip_range start end gs = sym (ap (take (end - start)) (drop-map item_of start gs) ∙ take-map item_of (end - start) (drop start gs))

taken : (zs : List Glyph) (order : List KeyedIndex) → strip (map (λ (e : KeyedIndex). glyph_at zs e.index) order) ≡ map (item_at (strip zs)) order
taken zs [] = refl
taken zs (e ∷ es) = ap (λ (x : Item). x ∷ strip (map (λ (f : KeyedIndex). glyph_at zs f.index) es)) (sym (get_or_mapped item_of zs e.index no_glyph)) ∙ ap (λ xs. item_at (strip zs) e ∷ xs) (taken zs es)

put_strip : (start end : ℕ) (order : List KeyedIndex) (gs : List Glyph) → strip (put_in_order start end order gs) ≡ take start (strip gs) ++ map (item_at (slice_range (strip gs) start end)) order ++ drop end (strip gs)
put_strip start end order gs =
    let range = map (λ (e : KeyedIndex). glyph_at (slice_range gs start end) e.index) order in
    map-append item_of (take start gs ++ range) (drop end gs) ∙ ap (λ xs. xs ++ strip (drop end gs)) (map-append item_of (take start gs) range)
    ∙ ap (λ xs. strip (take start gs) ++ xs ++ strip (drop end gs)) (taken (slice_range gs start end) order ∙ ap (λ xs. map (item_at xs) order) (strip_range start end gs))
    ∙ ap (λ xs. xs ++ map (item_at (slice_range (strip gs) start end)) order ++ strip (drop end gs)) (sym (take-map item_of start gs))
    ∙ ap (λ xs. take start (strip gs) ++ map (item_at (slice_range (strip gs) start end)) order ++ xs) (sym (drop-map item_of end gs))

-- the items of a sorted range, by a key of items
pub items_sorted : (level : Level) (start end : ℕ) (key : Item → ℕ) (gs : List Glyph) → strip (range_sorted level start end (λ g. key (item_of g)) gs).glyphs ≡ take start (strip gs) ++ key_order key (slice_range (strip gs) start end) ++ drop end (strip gs)
items_sorted level start end key gs =
    let order = indices_by_key (λ g. key (item_of g)) (slice_range gs start end) in
    let spanned = (range_spanned level start order gs).glyphs in
    let same : strip spanned ≡ strip gs = spans_strip level start order (length order) 0 0 (record { glyphs = gs; is_marked = false }) (omega arith) in
    put_strip start end order spanned ∙ ap (λ xs. take start xs ++ map (item_at (slice_range xs start end)) order ++ drop end xs) same
    ∙ ap (λ xs. take start (strip gs) ++ xs ++ drop end (strip gs)) (ap (λ xs. map (item_at xs) order) (sym (strip_range start end gs)) ∙ items_by_key key (slice_range gs start end) ∙ ap (key_order key) (strip_range start end gs))
