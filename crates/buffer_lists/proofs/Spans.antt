-- Steps of a sort of a range.
use Rattle.std.proofs.Common.{ℕ, suc, ◌≡◌, ◌≤◌, ◌<◌, ◌+◌, ◌-◌, ◌&&◌, nat_lt, max, ◌==◌, Bool, true, false, if◌then◌else◌, List, [], ◌∷◌, ◌++◌, length, map, take, drop, get_or, set, arith, refl, ap, sym, ◌∙◌, append_assoc}
use Rattle.std.specs.Prelude.{slice_range, ◌↔◌, IsTrue}
use borrow.Rule.Slice.PartMut.{put_mid}
use Rattle.std.specs.List.{list_all}
use Rattle.std.specs.Ordering.{nat_cmp, ord_max}
use Rattle.buffer_rows.specs.KeyOrder.{key_order}
use Rattle.std.proofs.lemmas.Bool.Decides.{nat_tests}
use Rattle.std.proofs.lemmas.Grind.{common_steps}
use Rattle.std.proofs.lemmas.List.{drop_more, drop-drop, take_more, map-append, length-append, length-map, length-take-le, length-drop, take-append-drop, get_or_at, get_or-set_same}
use Rattle.std.proofs.Math.Seq.{set-append_seam, map-set_same}
use Rattle.buffer_glyphs.specs.Items.{clusters}
use Rattle.buffer_glyphs.proofs.Lists.{get_or_mapped}
use Rattle.buffer_glyphs.specs.declared.info.hb_glyph_info_t.{hb_glyph_info_t as Glyph}
use Rattle.buffer_glyphs.specs.declared.level.BufferClusterLevel.{BufferClusterLevel as Level}
use Rattle.buffer_lists.specs.declared.sorting.KeyedIndex.{KeyedIndex}
use Rattle.buffer_lists.specs.Sorting.{keyed_indices_from, indices_by_key, is_seam, SpanMerge, span_merged, spans_merged, range_spanned, range_merged, range_sorted, glyph_at, put_in_order}

-- what an index past the end would give
abbrev pub no_key : KeyedIndex
no_key = record { key = 0; index = 0 }

pub keyed_step : (k : Glyph → ℕ) (gs : List Glyph) (i : ℕ) (d : Glyph) (v new whole : List KeyedIndex) (r : ℕ) → i < length gs → new ≡ v ++ record { key = r; index = i } ∷ [] → r ≡ k (get_or gs i d)
    → v ++ keyed_indices_from k i (drop i gs) ≡ whole → new ++ keyed_indices_from k (i + 1) (drop (i + 1) gs) ≡ whole
keyed_step k gs i d v new whole r lt n e before =
    let cut : keyed_indices_from k i (drop i gs) ≡ record { key = k (get_or gs i d); index = i } ∷ keyed_indices_from k (i + 1) (drop (i + 1) gs) = ap (keyed_indices_from k i) (drop_more gs i d lt) in
    ap (λ es. es ++ keyed_indices_from k (i + 1) (drop (i + 1) gs)) n ∙ append_assoc v (record { key = r; index = i } ∷ []) (keyed_indices_from k (i + 1) (drop (i + 1) gs))
    ∙ ap (λ (m : ℕ). v ++ record { key = m; index = i } ∷ keyed_indices_from k (i + 1) (drop (i + 1) gs)) e ∙ ap (λ es. v ++ es) (sym cut) ∙ before

all_more : (i : ℕ) (xs ys : List KeyedIndex) → list_all (λ (e : KeyedIndex). nat_lt e.index i) (xs ++ ys) ≡ (list_all (λ (e : KeyedIndex). nat_lt e.index i) xs && list_all (λ (e : KeyedIndex). nat_lt e.index i) ys)
all_more i [] ys = refl
all_more i (x ∷ xs) ys = ap (λ t. nat_lt x.index i && t) (all_more i xs ys) ∙ sym (and_assoc (nat_lt x.index i) (list_all (λ (e : KeyedIndex). nat_lt e.index i) xs) (list_all (λ (e : KeyedIndex). nat_lt e.index i) ys))
  where
    and_assoc : (s t u : Bool) → ((s && t) && u) ≡ (s && (t && u))
    and_assoc true t u = refl
    and_assoc false t u = refl

and_true : (s : Bool) → (s && true) ≡ s
and_true true = refl
and_true false = refl

max_less : (m n i : ℕ) → (nat_lt m i && nat_lt n i) ≡ nat_lt (max m n) i
max_less m n i = grind (arith, nat_tests, common_steps)

pub max_is : (m n : ℕ) → ord_max nat_cmp m n ≡ max m n
max_is m n = grind (arith, nat_tests, common_steps)

-- one place more came
pub reach_more : (order : List KeyedIndex) (index reach : ℕ) (d : KeyedIndex) → index < length order → ((i : ℕ) → 0 < i → list_all (λ (e : KeyedIndex). nat_lt e.index i) (take index order) ≡ nat_lt reach i)
    → (i : ℕ) → 0 < i → list_all (λ (e : KeyedIndex). nat_lt e.index i) (take (index + 1) order) ≡ nat_lt (max reach (get_or order index d).index) i
reach_more order index reach d lt before i some =
    ap (list_all (λ (e : KeyedIndex). nat_lt e.index i)) (take_more order index d lt) ∙ all_more i (take index order) (get_or order index d ∷ [])
    ∙ ap (λ t. t && (nat_lt (get_or order index d).index i && true)) (before i some) ∙ ap (λ t. nat_lt reach i && t) (and_true (nat_lt (get_or order index d).index i)) ∙ max_less reach (get_or order index d).index i

-- no seam is after an index
pub spans_go_on : (level : Level) (start : ℕ) (order : List KeyedIndex) (begin index reach : ℕ) (s whole : SpanMerge) → index < length order → index < reach
    → ((i : ℕ) → 0 < i → list_all (λ (e : KeyedIndex). nat_lt e.index i) (take (index + 1) order) ≡ nat_lt reach i)
    → spans_merged level start order begin index (length order - index) s ≡ whole → spans_merged level start order begin (index + 1) (length order - (index + 1)) s ≡ whole
spans_go_on level start order begin index reach s whole lt far seen before =
    let less : length order - index ≡ suc (length order - (index + 1)) = omega arith in
    let off : nat_lt reach (index + 1) ≡ false = grind (arith, nat_tests, common_steps) in
    let seam : is_seam order (index + 1) ≡ false = seen (index + 1) (omega arith) ∙ off in
    let opened = rw less at before in
    sym (ap (λ t. if t then spans_merged level start order (index + 1) (index + 1) (length order - (index + 1)) (span_merged level (start + begin) (start + (index + 1)) s) else spans_merged level start order begin (index + 1) (length order - (index + 1)) s) seam) ∙ opened

-- a seam is after it
pub spans_end : (level : Level) (start : ℕ) (order : List KeyedIndex) (begin index reach : ℕ) (s new whole : SpanMerge) → index < length order → reach ≤ index
    → ((i : ℕ) → 0 < i → list_all (λ (e : KeyedIndex). nat_lt e.index i) (take (index + 1) order) ≡ nat_lt reach i)
    → new ≡ span_merged level (start + begin) (start + (index + 1)) s
    → spans_merged level start order begin index (length order - index) s ≡ whole → spans_merged level start order (index + 1) (index + 1) (length order - (index + 1)) new ≡ whole
spans_end level start order begin index reach s new whole lt near seen n before =
    let less : length order - index ≡ suc (length order - (index + 1)) = omega arith in
    let on : nat_lt reach (index + 1) ≡ true = grind (arith, nat_tests, common_steps) in
    let seam : is_seam order (index + 1) ≡ true = seen (index + 1) (omega arith) ∙ on in
    let opened = rw less at before in
    ap (spans_merged level start order (index + 1) (index + 1) (length order - (index + 1))) n
    ∙ sym (ap (λ t. if t then spans_merged level start order (index + 1) (index + 1) (length order - (index + 1)) (span_merged level (start + begin) (start + (index + 1)) s) else spans_merged level start order begin (index + 1) (length order - (index + 1)) s) seam) ∙ opened

pub put_step : {X : Type 0} (f : X → Glyph) (order : List X) (old range : List Glyph) (i : ℕ) (d : X) (z g : Glyph) → i < length order → length order ≡ length old → range ≡ map f (take i order) ++ drop i old → z ≡ f (get_or order i d)
    → set range i z ≡ map f (take (i + 1) order) ++ drop (i + 1) old
put_step f order old range i d z g lt long before e =
    let within : i < length old = omega arith in
    let at : length (map f (take i order)) ≡ i = length-map (take i order) f ∙ length-take-le i order (omega arith) in
    let cut : range ≡ map f (take i order) ++ get_or old i g ∷ drop (i + 1) old = before ∙ ap (λ hs. map f (take i order) ++ hs) (drop_more old i g within) in
    let more : map f (take (i + 1) order) ≡ map f (take i order) ++ f (get_or order i d) ∷ [] = ap (map f) (take_more order i d lt) ∙ map-append f (take i order) (get_or order i d ∷ []) in
    ap (λ hs. set hs i z) cut ∙ ap (λ n. set (map f (take i order) ++ get_or old i g ∷ drop (i + 1) old) n z) (sym at) ∙ set-append_seam (map f (take i order)) (get_or old i g) (drop (i + 1) old) z
    ∙ ap (λ (h : Glyph). map f (take i order) ++ h ∷ drop (i + 1) old) e ∙ sym (append_assoc (map f (take i order)) (f (get_or order i d) ∷ []) (drop (i + 1) old)) ∙ ap (λ hs. hs ++ drop (i + 1) old) (sym more)

-- what a place past those that were put has
still_there : (f : KeyedIndex → Glyph) (order : List KeyedIndex) (old range : List Glyph) (i : ℕ) (d : Glyph) → i < length order → length order ≡ length old → range ≡ map f (take i order) ++ drop i old → get_or range i d ≡ get_or old i d
still_there f order old range i d lt long before =
    let at : length (map f (take i order)) ≡ i = length-map (take i order) f ∙ length-take-le i order (omega arith) in
    ap (λ hs. get_or hs i d) (before ∙ ap (λ hs. map f (take i order) ++ hs) (drop_more old i d (omega arith))) ∙ get_or_at (map f (take i order)) (get_or old i d) (drop (i + 1) old) d i at

-- the clusters are as they were just where they were so before, and the next place takes a glyph of the cluster that it has
pub same_step : (f : KeyedIndex → Glyph) (order : List KeyedIndex) (old range : List Glyph) (i : ℕ) (z d : Glyph) (s : Bool) → i < length order → length order ≡ length old → range ≡ map f (take i order) ++ drop i old
    → IsTrue s ↔ (clusters range ≡ clusters old) → IsTrue (s && ((get_or range i d).cluster == z.cluster)) ↔ (clusters (set range i z) ≡ clusters old)
same_step f order old range i z d s lt long before same = (there, back)
  where
    there : (s && ((get_or range i d).cluster == z.cluster)) ≡ true → clusters (set range i z) ≡ clusters old
    there both =
        let alike : z.cluster ≡ (get_or range i d).cluster = grind (arith, nat_tests, common_steps, both) in
        map-set_same (λ (g : Glyph). g.cluster) range i z d alike ∙ same.0 (grind (arith, nat_tests, common_steps, both))

    back : clusters (set range i z) ≡ clusters old → (s && ((get_or range i d).cluster == z.cluster)) ≡ true
    back e =
        let v : Glyph → ℕ = λ g. g.cluster in
        let within : i < length range = omega (arith, ap length before, length-append (map f (take i order)) (drop i old), length-map (take i order) f, length-take-le i order (omega arith), length-drop i old) in
        let alike : z.cluster ≡ (get_or range i d).cluster =
        sym (get_or_mapped v (set range i z) i d ∙ ap v (get_or-set_same range i z d within)) ∙ ap (λ ns. get_or ns i d.cluster) e ∙ get_or_mapped v old i d ∙ ap v (sym (still_there f order old range i d lt long before)) in
        let known : s ≡ true = same.1 (sym (map-set_same v range i z d alike) ∙ e) in
        grind (arith, nat_tests, common_steps, known, alike)

-- a range was put in order once its spans were merged
put_range : (start end : ℕ) (order : List KeyedIndex) (mid range : List Glyph) → start ≤ end → range ≡ map (λ (e : KeyedIndex). glyph_at (slice_range mid start end) e.index) order → put_mid start (end - start) mid range ≡ put_in_order start end order mid
put_range start end order mid range le e =
    let there : start + (end - start) ≡ end = omega arith in
    let behind : drop (end - start) (drop start mid) ≡ drop end mid = drop-drop (end - start) start mid ∙ ap (λ n. drop n mid) there in
    rw (e, behind) (sym (append_assoc (take start mid) (map (λ (e : KeyedIndex). glyph_at (slice_range mid start end) e.index) order) (drop end mid)))

order_is : (k : Glyph → ℕ) (gs : List Glyph) (keyed order : List KeyedIndex) → keyed ≡ keyed_indices_from k 0 gs → order ≡ key_order (λ (e : KeyedIndex). e.key) keyed → order ≡ indices_by_key k gs
order_is k gs keyed order e o = o ∙ ap (key_order (λ (e : KeyedIndex). e.key)) e

-- the glyphs that were put in order
pub merged_is : (level : Level) (start end : ℕ) (k : Glyph → ℕ) (gs mid : List Glyph) (keyed order : List KeyedIndex) (marked : Bool) → keyed ≡ keyed_indices_from k 0 (slice_range gs start end) → order ≡ key_order (λ (e : KeyedIndex). e.key) keyed
    → record { glyphs = mid; is_marked = marked } ≡ range_spanned level start order gs → mid ≡ range_merged level start end k gs
merged_is level start end k gs mid keyed order marked e o spanned =
    ap (λ (s : SpanMerge). s.glyphs) spanned ∙ ap (λ es. (range_spanned level start es gs).glyphs) (order_is k (slice_range gs start end) keyed order e o)

pub sorted_is : (level : Level) (start end : ℕ) (k : Glyph → ℕ) (gs mid range copy : List Glyph) (keyed order : List KeyedIndex) (marked : Bool) → start ≤ end → keyed ≡ keyed_indices_from k 0 (slice_range gs start end) → order ≡ key_order (λ (e : KeyedIndex). e.key) keyed
    → record { glyphs = mid; is_marked = marked } ≡ range_spanned level start order gs → copy ≡ slice_range mid start end → range ≡ map (λ (e : KeyedIndex). glyph_at copy e.index) order
    → put_mid start (end - start) mid range ≡ (range_sorted level start end k gs).glyphs
sorted_is level start end k gs mid range copy keyed order marked le e o spanned c r =
    let is = order_is k (slice_range gs start end) keyed order e o in
    put_range start end order mid range le (r ∙ ap (λ hs. map (λ (e : KeyedIndex). glyph_at hs e.index) order) c) ∙ ap (λ es. put_in_order start end es mid) is ∙ ap (put_in_order start end (indices_by_key k (slice_range gs start end))) (merged_is level start end k gs mid keyed order marked e o spanned)

pub sort_marks : (level : Level) (start end : ℕ) (k : Glyph → ℕ) (gs mid : List Glyph) (keyed order : List KeyedIndex) (marked : Bool) → keyed ≡ keyed_indices_from k 0 (slice_range gs start end) → order ≡ key_order (λ (e : KeyedIndex). e.key) keyed
    → record { glyphs = mid; is_marked = marked } ≡ range_spanned level start order gs → marked ≡ (range_sorted level start end k gs).is_marked
sort_marks level start end k gs mid keyed order marked e o spanned =
    ap (λ (s : SpanMerge). s.is_marked) spanned ∙ ap (λ es. (range_spanned level start es gs).is_marked) (order_is k (slice_range gs start end) keyed order e o)

-- a range whose clusters are as they were leaves all of them so
pub put_same : (start n : ℕ) (mid range : List Glyph) → clusters range ≡ clusters (take n (drop start mid)) → clusters (put_mid start n mid range) ≡ clusters mid
put_same start n mid range e =
    let f : Glyph → ℕ = λ g. g.cluster in
    let back : List Glyph = drop n (drop start mid) in
    map-append f (take start mid) (range ++ back)
    ∙ ap (λ ns. clusters (take start mid) ++ ns) (map-append f range back ∙ ap (λ ns. ns ++ clusters back) e ∙ sym (map-append f (take n (drop start mid)) back) ∙ ap clusters (take-append-drop n (drop start mid)))
    ∙ sym (map-append f (take start mid) (drop start mid)) ∙ ap clusters (take-append-drop start mid)
