-- A sort across the start of a cluster makes it unsafe to break there.
use Rattle.std.proofs.Common.{ℕ, zero, suc, ◌≡◌, ◌≢◌, ◌≤◌, ◌<◌, ◌+◌, ◌-◌, ◌⊎◌, inl, inr, nat_lt, Bool, true, false, if◌then◌else◌, List, [], ◌∷◌, length, map, take, drop, arith, refl, ap, sym, subst, ◌∙◌}
use Rattle.std.proofs.lemmas.Grind.{common_steps}
use Rattle.std.proofs.lemmas.Bool.Decides.{nat_tests}
use Rattle.std.proofs.lemmas.List.{drop-drop}
use Rattle.buffer_glyphs.specs.declared.level.BufferClusterLevel.{BufferClusterLevel}
use Rattle.buffer_glyphs.specs.declared.level.BufferClusterLevel.TheVariants.{MonotoneGraphemes, MonotoneCharacters, Characters, Graphemes}
use Rattle.buffer_glyphs.specs.Levels.{InList, Manner, Unites, Marks, Keeps, manner}
use Rattle.buffer_glyphs.specs.Parts.{range_of}
use Rattle.buffer_glyphs.specs.Order.{has_number, IsOrdered}
use Rattle.buffer_glyphs.specs.Merges.{least_number, merged_number}
use Rattle.buffer_glyphs.specs.Origins.{Origin, numbers, origins_merged_as, is_seam, Span, spans_from, spans, spans_merged}
use Rattle.buffer_glyphs.specs.Lemmas.Numbers.{Has, has_here, has_more, has_cases, has_take, map_has}
use Rattle.buffer_glyphs.specs.Lemmas.Origins.{slice_seen, numbers_merged, numbers_merged_by}
use Rattle.buffer_glyphs.specs.Lemmas.Merges.{least_number_is}
use Rattle.buffer_parts.specs.Breaks.Unsafe.{IsUnsafeAt}
use Rattle.buffer_parts.specs.Breaks.Bound.{Crosses}
use Rattle.buffer_parts.specs.Breaks.Laws.{SortIsUnsafe}
use Rattle.buffer_parts.proofs.BreakLemmas.Merged.{spans_stay, length_spans, merged_ordered}
use Rattle.buffer_parts.proofs.BreakLemmas.Events.{arranged_stays, arranged_brings}
use Rattle.buffer_parts.proofs.BreakLemmas.Bound.{merged_across, united_absent}
use Rattle.buffer_glyphs.specs.Lemmas.EventParts.{spans_bring}

-- ---- the span of two neighbours

-- one of the spans has the indices i and i + 1
abbrev Covers : ℕ → List Span → Type 0
Covers i [] = ⊥
Covers i (s ∷ ss) = ((s.from ≤ i) × (i + 2 ≤ s.to)) ⊎ Covers i ss

-- the end of each span is not before its start
abbrev AreForward : List Span → Type 0
AreForward [] = Unit {0}
AreForward (s ∷ ss) = (s.from ≤ s.to) × AreForward ss

spans_forward : (order : List ℕ) (begin index left : ℕ) → begin ≤ index → AreForward (spans_from order begin index left)
spans_forward order begin index zero le = tt
spans_forward order begin index (suc left) le =
    elim (is_seam order (index + 1)) as (λ t. AreForward (if t then record { from = begin; to = index + 1 } ∷ spans_from order (index + 1) (index + 1) left else spans_from order begin (index + 1) left))
    [ true ↦ (omega (arith, le), spans_forward order (index + 1) (index + 1) left (omega arith)) | false ↦ spans_forward order begin (index + 1) left (omega (arith, le)) ]

seam_at : (order : List ℕ) (m n : ℕ) (t : Bool) → m ≡ n → is_seam order m ≡ t → is_seam order n ≡ t
seam_at order m n t e h = subst (λ k. is_seam order k ≡ t) e h

no_seam : (order : List ℕ) (m n : ℕ) → m ≡ n → is_seam order m ≡ true → is_seam order n ≡ false → ⊥
no_seam order m n e h k = let no : true ≡ false = sym (seam_at order m n true e h) ∙ k in cc

-- past both indices, the next seam ends their span
cover_end : (order : List ℕ) (begin index left i : ℕ) → begin ≤ i → i + 1 ≤ index → is_seam order index ≡ false → is_seam order (index + left) ≡ true → Covers i (spans_from order begin index left)
cover_end order begin index zero i le past inner whole = absurd (no_seam order (index + 0) index (omega arith) whole inner)
cover_end order begin index (suc left) i le past inner whole =
    by_test (is_seam order (index + 1)) refl (λ e. cover_end order begin (index + 1) left i le (omega (arith, past)) e (seam_at order (index + suc left) (index + 1 + left) true (omega arith) whole))
  where
    by_test : (t : Bool) → is_seam order (index + 1) ≡ t → (is_seam order (index + 1) ≡ false → Covers i (spans_from order begin (index + 1) left))
        → Covers i (if t then record { from = begin; to = index + 1 } ∷ spans_from order (index + 1) (index + 1) left else spans_from order begin (index + 1) left)
    by_test true e rest = inl (le, omega (arith, past))
    by_test false e rest = rest e

cover_from : (order : List ℕ) (begin index left i : ℕ) → begin ≤ index → index ≤ i → is_seam order (i + 1) ≡ false → i + 1 < index + left → is_seam order (index + left) ≡ true → Covers i (spans_from order begin index left)
cover_from order begin index zero i le before inner within whole = absurd (omega (arith, before, within))
cover_from order begin index (suc left) i le before inner within whole =
    by_test (is_seam order (index + 1)) refl
    (λ more. cover_from order (index + 1) (index + 1) left i (omega arith) more inner (omega (arith, within)) (seam_at order (index + suc left) (index + 1 + left) true (omega arith) whole))
    (λ more. cover_from order begin (index + 1) left i (omega (arith, le)) more inner (omega (arith, within)) (seam_at order (index + suc left) (index + 1 + left) true (omega arith) whole))
  where
    further : index ≢ i → index + 1 ≤ i
    further ne = omega (arith, before, ne)

    by_index : is_seam order (index + 1) ≡ false → (index + 1 ≤ i → Covers i (spans_from order begin (index + 1) left)) → (t : Bool) → nat_lt index i ≡ t → Covers i (spans_from order begin (index + 1) left)
    by_index e rest true f = rest (grind (arith, nat_tests, common_steps))
    by_index e rest false f =
        let past : i ≤ index = grind (arith, nat_tests, common_steps) in
        cover_end order begin (index + 1) left i (omega (arith, le, before)) (omega (arith, past)) e (seam_at order (index + suc left) (index + 1 + left) true (omega arith) whole)

    by_test : (t : Bool) → is_seam order (index + 1) ≡ t → (index + 1 ≤ i → Covers i (spans_from order (index + 1) (index + 1) left)) → (index + 1 ≤ i → Covers i (spans_from order begin (index + 1) left))
        → Covers i (if t then record { from = begin; to = index + 1 } ∷ spans_from order (index + 1) (index + 1) left else spans_from order begin (index + 1) left)
    by_test true e after on = inr (after (further (λ same. no_seam order (index + 1) (i + 1) (ap (λ n. n + 1) same) e inner)))
    by_test false e after on = by_index e on (nat_lt index i) refl

-- ---- wider ranges

take_wider : (k n m : ℕ) (xs : List ℕ) → Has (take n xs) k → n ≤ m → Has (take m xs) k
take_wider k zero m xs h le = cc
take_wider k (suc n) m [] h le = cc
take_wider k (suc n) zero (x ∷ xs) h le = absurd (omega (arith, le))
take_wider k (suc n) (suc m) (x ∷ xs) h le = elim (has_cases x k (take n xs) h) [
  | inl e ↦ subst (λ j. Has (x ∷ take m xs) j) e (has_here x (take m xs))
  | inr later ↦ has_more x k (take m xs) (take_wider k n m xs later (omega (arith, le)))
]

within_wider : (k at n m : ℕ) (xs : List ℕ) → Has (take n (drop at xs)) k → at + n ≤ m → Has (take m xs) k
within_wider k zero n m xs h le = take_wider k n m xs h (omega (arith, le))
within_wider k (suc at) n m [] h le = let none : Has [] k = has_take k n [] h in cc
within_wider k (suc at) n zero (x ∷ xs) h le = absurd (omega (arith, le))
within_wider k (suc at) n (suc m) (x ∷ xs) h le = has_more x k (take m xs) (within_wider k at n m xs h (omega (arith, le)))

range_wider : (k from to low high : ℕ) (ns : List ℕ) → low ≤ from → from ≤ to → to ≤ high → Has (range_of from to ns) k → Has (range_of low high ns) k
range_wider k from to low high ns le mid lt h =
    let at : low + (from - low) ≡ from = omega (arith, le) in
    let is : drop from ns ≡ drop (from - low) (drop low ns) = ap (λ (n : ℕ). drop n ns) (sym at) ∙ sym (drop-drop (from - low) low ns) in
    within_wider k (from - low) (to - from) (high - low) (drop low ns) (subst (λ (ms : List ℕ). Has (take (to - from) ms) k) is h) (omega (arith, le, mid, lt))

crosses_wider : (c from to low high : ℕ) (ns : List ℕ) → low ≤ from → from ≤ to → to ≤ high → Crosses c from to ns → Crosses c low high ns
crosses_wider c from to low high ns le mid lt x = record {
  low = x.low;
  high = x.high;
  has_low = range_wider x.low from to low high ns le mid lt x.has_low;
  has_high = range_wider x.high from to low high ns le mid lt x.has_high;
  below = x.below;
  above = x.above;
}

-- ---- a merge elsewhere

-- the numbers of a range are on one side of c
abbrev OnOneSide : ℕ → List ℕ → Type 0
OnOneSide c range = ((n : ℕ) → Has range n → n < c) ⊎ ((n : ℕ) → Has range n → c ≤ n)

record OnBothSides (c : ℕ) (range : List ℕ) : Type 0 where
  pub low : ℕ
  pub high : ℕ
  pub has_low : Has range low
  pub has_high : Has range high
  pub below : low < c
  pub above : c ≤ high

none_below : (c n : ℕ) → Has [] n → n < c
none_below c n h = cc

sides_with : (c m : ℕ) (range : List ℕ) → (OnBothSides c range ⊎ OnOneSide c range) → (t : Bool) → nat_lt m c ≡ t → OnBothSides c (m ∷ range) ⊎ OnOneSide c (m ∷ range)
sides_with c m range (inl both) t e = inl (record { low = both.low; high = both.high; has_low = has_more m both.low range both.has_low; has_high = has_more m both.high range both.has_high; below = both.below; above = both.above })
sides_with c m range (inr (inl below)) true e =
    let less : m < c = grind (arith, nat_tests, common_steps) in
    inr (inl (λ n h. elim (has_cases m n range h) [ inl same ↦ omega (arith, same, less) | inr later ↦ below n later ]))
sides_with c m [] (inr (inl below)) false e =
    let more : c ≤ m = grind (arith, nat_tests, common_steps) in
    inr (inr (λ n h. elim (has_cases m n [] h) [ inl same ↦ omega (arith, same, more) | inr later ↦ cc ]))
sides_with c m (n ∷ range) (inr (inl below)) false e =
    let more : c ≤ m = grind (arith, nat_tests, common_steps) in
    inl (record { low = n; high = m; has_low = has_more m n (n ∷ range) (has_here n range); has_high = has_here m (n ∷ range); below = below n (has_here n range); above = more })
sides_with c m range (inr (inr above)) false e =
    let more : c ≤ m = grind (arith, nat_tests, common_steps) in
    inr (inr (λ n h. elim (has_cases m n range h) [ inl same ↦ omega (arith, same, more) | inr later ↦ above n later ]))
sides_with c m [] (inr (inr above)) true e =
    let less : m < c = grind (arith, nat_tests, common_steps) in
    inr (inl (λ n h. elim (has_cases m n [] h) [ inl same ↦ omega (arith, same, less) | inr later ↦ cc ]))
sides_with c m (n ∷ range) (inr (inr above)) true e =
    let less : m < c = grind (arith, nat_tests, common_steps) in
    inl (record { low = m; high = n; has_low = has_here m (n ∷ range); has_high = has_more m n (n ∷ range) (has_here n range); below = less; above = above n (has_here n range) })

sides_of : (c : ℕ) (range : List ℕ) → OnBothSides c range ⊎ OnOneSide c range
sides_of c [] = inr (inl (λ n h. none_below c n h))
sides_of c (m ∷ range) = sides_with c m range (sides_of c range) (nat_lt m c) refl

least_has : (range : List ℕ) (n : ℕ) → Has range n → Has range (least_number range)
least_has [] n h = cc
least_has (m ∷ range) n h = (least_number_is m range).among

-- a merge of numbers on one side leaves each number on its side
side_below : (c n : ℕ) (range : List ℕ) → OnOneSide c range → n < c → merged_number range n < c
side_below c n range side lt = by_test (has_number range n) refl side
  where
    by_test : (t : Bool) → has_number range n ≡ t → OnOneSide c range → (if t then least_number range else n) < c
    by_test false e s = lt
    by_test true e (inl below) = below (least_number range) (least_has range n e)
    by_test true e (inr above) = let no : c ≤ n = above n e in absurd (omega (arith, no, lt))

side_above : (c n : ℕ) (range : List ℕ) → OnOneSide c range → c ≤ n → c ≤ merged_number range n
side_above c n range side le = by_test (has_number range n) refl side
  where
    by_test : (t : Bool) → has_number range n ≡ t → OnOneSide c range → c ≤ (if t then least_number range else n)
    by_test false e s = le
    by_test true e (inr above) = above (least_number range) (least_has range n e)
    by_test true e (inl below) = let no : n < c = below n e in absurd (omega (arith, no, le))

-- a range that crosses the start of c does so after a merge elsewhere, or that merge makes it unsafe to break there
crosses_on : (m : Manner) (from to c low high : ℕ) (os : List Origin) → IsOrdered (numbers os) → Crosses c low high (numbers os)
    → IsUnsafeAt c (origins_merged_as m from to os) ⊎ Crosses c low high (numbers (origins_merged_as m from to os))
crosses_on Marks from to c low high os o x = inr (subst (Crosses c low high) (sym (numbers_merged_by Marks from to os)) x)
crosses_on Keeps from to c low high os o x = inr x
crosses_on Unites from to c low high os o x = by_sides (sides_of c range)
  where
    range : List ℕ
    range = range_of from to (numbers os)

    seen : (n : ℕ) → Has (range_of low high (numbers os)) n → Has (range_of low high (numbers (origins_merged_as Unites from to os))) (merged_number range n)
    seen n h =
        let is : map (merged_number range) (range_of low high (numbers os)) ≡ range_of low high (numbers (origins_merged_as Unites from to os)) =
        slice_seen (merged_number range) low high (numbers os) ∙ ap (range_of low high) (sym (numbers_merged range os)) in
        subst (λ (ns : List ℕ). Has ns (merged_number range n)) is (map_has (merged_number range) n (range_of low high (numbers os)) h)

    by_sides : OnBothSides c range ⊎ OnOneSide c range → IsUnsafeAt c (origins_merged_as Unites from to os) ⊎ Crosses c low high (numbers (origins_merged_as Unites from to os))
    by_sides (inl both) = inl (λ there. absurd (united_absent Unites from to c os tt o (record { low = both.low; high = both.high; has_low = both.has_low; has_high = both.has_high; below = both.below; above = both.above }) there))
    by_sides (inr side) = inr (record {
      low = merged_number range x.low;
      high = merged_number range x.high;
      has_low = seen x.low x.has_low;
      has_high = seen x.high x.has_high;
      below = side_below c x.low range side x.below;
      above = side_above c x.high range side x.above;
    })

-- ---- spans

-- a manner that unites or flags
abbrev IsActing : Manner → Type 0
IsActing Unites = Unit {0}
IsActing Marks = Unit {0}
IsActing Keeps = ⊥

list_acts : (level : BufferClusterLevel) → IsActing (manner InList level)
list_acts MonotoneGraphemes = tt
list_acts MonotoneCharacters = tt
list_acts Characters = tt
list_acts Graphemes = tt

acting_across : (m : Manner) (from to c : ℕ) (os : List Origin) → IsActing m → IsOrdered (numbers os) → Crosses c from to (numbers os) → IsUnsafeAt c (origins_merged_as m from to os)
acting_across Unites from to c os a o x = merged_across Unites from to c (record { from = from; to = to }) os refl o x
acting_across Marks from to c os a o x = merged_across Marks from to c (record { from = from; to = to }) os refl o x
acting_across Keeps from to c os a o x = absurd a

rest_stays : (m : Manner) (c at : ℕ) (ss : List Span) (os : List Origin) → IsUnsafeAt c os → IsUnsafeAt c (spans_merged m at ss os)
rest_stays m c at ss os u = λ there. spans_stay m c at ss os there (u (spans_bring m at ss os c there))

spans_across : (m : Manner) (c at i : ℕ) (ss : List Span) (os : List Origin) → IsActing m → AreForward ss → IsOrdered (numbers os) → Covers i ss → Crosses c (at + i) (at + i + 2) (numbers os) → IsUnsafeAt c (spans_merged m at ss os)
spans_across m c at i [] os a f o cover x = absurd cover
spans_across m c at i (s ∷ ss) os a f o (inl wide) x =
    let mid = origins_merged_as m (at + s.from) (at + s.to) os in
    rest_stays m c at ss mid (acting_across m (at + s.from) (at + s.to) c os a o (crosses_wider c (at + i) (at + i + 2) (at + s.from) (at + s.to) (numbers os) (omega (arith, wide.0)) (omega arith) (omega (arith, wide.1)) x))
spans_across m c at i (s ∷ ss) os a f o (inr later) x =
    let mid = origins_merged_as m (at + s.from) (at + s.to) os in
    elim (crosses_on m (at + s.from) (at + s.to) c (at + i) (at + i + 2) os o x) [
      | inl unsafe ↦ rest_stays m c at ss mid unsafe
      | inr on ↦ spans_across m c at i ss mid a f.1 (merged_ordered m (at + s.from) (at + s.to) os (omega (arith, f.0)) o) later on
    ]

pub sort_is_unsafe : SortIsUnsafe
sort_is_unsafe asks level from order i os c o p stays within inner x = λ there.
    let m = manner InList level in
    let mid = spans_merged m from (spans order) os in
    let cover = cover_from order 0 0 (length order) i (omega arith) (omega arith) inner (omega (arith, within)) (seam_at order (length order) (0 + length order) true (omega arith) stays.whole) in
    arranged_stays c from order os mid (length_spans m from (spans order) os) p
    (spans_across m c from i (spans order) os (list_acts level) (spans_forward order 0 0 (length order) (omega arith)) o cover x (arranged_brings asks level from order mid c there))
