-- A range whose keys stand in order is in the order of the key.
use Rattle.std.specs.Prelude.{slice_range}
use Rattle.std.specs.List.{list_all}
use Rattle.std.specs.List.Sorted.{IsNonDecreasingBy}
use Rattle.std.proofs.Common.{ℕ, zero, suc, ◌≡◌, ◌≤◌, ◌<◌, ◌+◌, ◌-◌, nat_lt, true, false, List, [], ◌∷◌, ◌++◌, length, map, take, drop, get_or, arith, refl, ap, sym, subst, ◌∙◌, append_assoc}
use Rattle.std.proofs.lemmas.Bool.{cond-true, cond-false}
use Rattle.std.proofs.lemmas.Bool.Decides.{nat_tests}
use Rattle.std.proofs.lemmas.List.{take_more, length-take-le, length-append, get_or-take, get_or_default, drop-drop, take-append-drop}
use Rattle.std.proofs.lemmas.List.Sorted.{IsNonDecreasingBy-push, IsPermutation-refl}
use Rattle.std.proofs.Math.Seq.{get_or-append_seam}
use Rattle.buffer_rows.proofs.StableSort.{stable_sort_is}
use Rattle.buffer_glyphs.specs.declared.info.hb_glyph_info_t.{hb_glyph_info_t as Glyph}
use Rattle.buffer_glyphs.specs.declared.level.BufferClusterLevel.{BufferClusterLevel as Level}
use Rattle.buffer_lists.specs.declared.sorting.KeyedIndex.{KeyedIndex}
use Rattle.buffer_lists.proofs.Lemmas.Neighbours.{no_glyph}
use Rattle.buffer_lists.specs.Sorting.{keyed_indices_from, indices_by_key, is_seam, SpanMerge, span_merged, spans_merged, range_spanned, range_sorted, glyph_at, put_in_order}
use Rattle.buffer_lists.proofs.Seams.{keyed_length}

-- one glyph more, whose key is not below the last
pub ordered_step : (k : Glyph → ℕ) (gs : List Glyph) (i last next : ℕ) (d : Glyph) → i < length gs → IsNonDecreasingBy k (take i gs) → ((e : Glyph) → 0 < i → k (get_or gs (i - 1) e) ≡ last) → next ≡ k (get_or gs i d) → last ≤ next → IsNonDecreasingBy k (take (i + 1) gs)
ordered_step k gs i last next d lt before seen now le =
    let short : length (take i gs) ≡ i = length-take-le i gs (omega arith) in
    subst (IsNonDecreasingBy k) (sym (take_more gs i d lt))
    (IsNonDecreasingBy-push k (take i gs) (get_or gs i d) before (λ e some.
    let some' : 0 < i = omega (arith, some, short) in
    let there : get_or (take i gs) (length (take i gs) - 1) e ≡ get_or gs (i - 1) e = ap (λ n. get_or (take i gs) (n - 1) e) short ∙ get_or-take i gs (i - 1) e (omega arith) in
    let is = seen e some' in
    omega (arith, ap k there, is, now, le)))

pub key_there : (k : Glyph → ℕ) (gs : List Glyph) (i next : ℕ) (e d : Glyph) → i < length gs → next ≡ k (get_or gs i d) → k (get_or gs (i + 1 - 1) e) ≡ next
key_there k gs i next e d lt now =
    let at : i + 1 - 1 ≡ i = omega arith in
    ap (λ n. k (get_or gs n e)) at ∙ ap k (get_or_default gs i e d lt) ∙ sym now

key_at : (k : Glyph → ℕ) (j : ℕ) (gs : List Glyph) (i : ℕ) (d : KeyedIndex) (z : Glyph) → i < length gs → (get_or (keyed_indices_from k j gs) i d).key ≡ k (get_or gs i z)
key_at k j [] i d z lt = absurd (omega (arith, lt))
key_at k j (g ∷ gs) zero d z lt = refl
key_at k j (g ∷ gs) (suc i) d z lt = key_at k (j + 1) gs i d z (omega (arith, lt))

keyed_ordered : (k : Glyph → ℕ) (gs : List Glyph) → IsNonDecreasingBy k gs → IsNonDecreasingBy (λ (e : KeyedIndex). e.key) (keyed_indices_from k 0 gs)
keyed_ordered k gs h i j d le lt =
    let long = keyed_length k 0 gs in
    let within : j < length gs = omega (arith, lt, long) in
    let here = key_at k 0 gs i d no_glyph (omega (arith, le, within)) in
    let there = key_at k 0 gs j d no_glyph within in
    let up = h i j no_glyph le within in
    omega (arith, up, here, there)

places_same : (k : Glyph → ℕ) (gs : List Glyph) → IsNonDecreasingBy k gs → indices_by_key k gs ≡ keyed_indices_from k 0 gs
places_same k gs h =
    let keyed = keyed_indices_from k 0 gs in
    sym (stable_sort_is (λ (e : KeyedIndex). e.key) (λ c. record { key = c; index = 0 }) (λ c. refl) keyed keyed (keyed_ordered k gs h) (λ x. refl) (IsPermutation-refl keyed))

all_before : (k : Glyph → ℕ) (i j n : ℕ) (gs : List Glyph) → j + i ≤ n → list_all (λ (e : KeyedIndex). nat_lt e.index n) (take i (keyed_indices_from k j gs)) ≡ true
all_before k zero j n gs le = refl
all_before k (suc i) j n [] le = refl
all_before k (suc i) j n (g ∷ gs) le =
    let first : nat_lt j n ≡ true = grind (arith, nat_tests) in
    rw (first, all_before k i (j + 1) n gs (omega arith)) refl

all_seams : (k : Glyph → ℕ) (gs : List Glyph) (i : ℕ) → is_seam (keyed_indices_from k 0 gs) i ≡ true
all_seams k gs i = all_before k i 0 i gs (omega arith)

one_alone : (level : Level) (start index : ℕ) (s : SpanMerge) → span_merged level (start + index) (start + (index + 1)) s ≡ s
one_alone level start index s =
    let off : nat_lt (start + index + 1) (start + (index + 1)) ≡ false = grind (arith, nat_tests) in
    cond-false _ _ _ off

spans_same : (level : Level) (start : ℕ) (order : List KeyedIndex) (left index : ℕ) (s : SpanMerge) → ((i : ℕ) → is_seam order i ≡ true) → spans_merged level start order index index left s ≡ s
spans_same level start order zero index s seams = refl
spans_same level start order (suc left) index s seams =
    cond-true _ _ _ (seams (index + 1)) ∙ ap (spans_merged level start order (index + 1) (index + 1) left) (one_alone level start index s) ∙ spans_same level start order left (index + 1) s seams

put_from : (k : Glyph → ℕ) (front gs : List Glyph) (i : ℕ) → length front ≡ i → map (λ (e : KeyedIndex). glyph_at (front ++ gs) e.index) (keyed_indices_from k i gs) ≡ gs
put_from k front [] i e = refl
put_from k front (g ∷ gs) i e =
    let here : glyph_at (front ++ g ∷ gs) i ≡ g = ap (glyph_at (front ++ g ∷ gs)) (sym e) ∙ get_or-append_seam front g gs no_glyph in
    let longer : length (front ++ g ∷ []) ≡ i + 1 = omega (arith, e, length-append front (g ∷ [])) in
    let rest = subst (λ (xs : List Glyph). map (λ (e : KeyedIndex). glyph_at xs e.index) (keyed_indices_from k (i + 1) gs) ≡ gs) (append_assoc front (g ∷ []) gs) (put_from k (front ++ g ∷ []) gs (i + 1) longer) in
    ap (λ (x : Glyph). x ∷ map (λ (e : KeyedIndex). glyph_at (front ++ g ∷ gs) e.index) (keyed_indices_from k (i + 1) gs)) here ∙ ap (λ hs. g ∷ hs) rest

put_same : (start end : ℕ) (k : Glyph → ℕ) (gs : List Glyph) → start ≤ end → put_in_order start end (keyed_indices_from k 0 (slice_range gs start end)) gs ≡ gs
put_same start end k gs le =
    let there : start + (end - start) ≡ end = omega arith in
    let behind : drop end gs ≡ drop (end - start) (drop start gs) = ap (λ n. drop n gs) (sym there) ∙ sym (drop-drop (end - start) start gs) in
    ap (λ hs. take start gs ++ hs ++ drop end gs) (put_from k [] (slice_range gs start end) 0 refl)
    ∙ append_assoc (take start gs) (slice_range gs start end) (drop end gs)
    ∙ ap (λ hs. take start gs ++ (slice_range gs start end ++ hs)) behind
    ∙ ap (λ hs. take start gs ++ hs) (take-append-drop (end - start) (drop start gs))
    ∙ take-append-drop start gs

-- nothing is merged, and all stay where they are
pub ordered_sort : (level : Level) (start end : ℕ) (k : Glyph → ℕ) (gs : List Glyph) → start ≤ end → IsNonDecreasingBy k (slice_range gs start end) → range_sorted level start end k gs ≡ record { glyphs = gs; is_marked = false }
ordered_sort level start end k gs le h =
    let range = slice_range gs start end in
    let keyed = keyed_indices_from k 0 range in
    let s : SpanMerge = record { glyphs = gs; is_marked = false } in
    let spanned : range_spanned level start keyed gs ≡ s = spans_same level start keyed (length keyed) 0 s (all_seams k range) in
    ap (λ es. record { glyphs = put_in_order start end es (range_spanned level start es gs).glyphs; is_marked = (range_spanned level start es gs).is_marked }) (places_same k range h)
    ∙ ap (λ (t : SpanMerge). record { glyphs = put_in_order start end keyed t.glyphs; is_marked = t.is_marked }) spanned
    ∙ ap (λ hs. record { glyphs = hs; is_marked = false }) (put_same start end k gs le)
