-- The rows of a first glyph stand together, in the order of their second glyphs.
use Rattle.std.proofs.Common.{◌≡◌, ℕ, zero, suc, ◌<◌, ◌≤◌, ◌+◌, ◌-◌, ◌&&◌, ◌||◌, ◌==◌, Bool, not, true, false, if◌then◌else◌, List, [], ◌∷◌, ◌++◌, length, get_or, slice_get, find, take, drop, Option, Some, None, option_map, inl, inr, refl, sym, ap, ◌∙◌, arith, nat_eq}
use Rattle.std.specs.List.{list_any}
use Rattle.std.specs.Ordering.{is_lt, nat_cmp, ordering_then}
use Rattle.std.specs.List.Sorted.{IsNonDecreasingBy}
use Rattle.std.proofs.lemmas.Bool.{and_parts, cases_lt, eqb-true, eqb-false, ne_eqb}
use Rattle.std.proofs.lemmas.Bool.Decides.{nat_tests}
use Rattle.std.proofs.lemmas.Option.{get_or_from_slice_get}
use Rattle.buffer_rows.specs.Keys.{is_above, is_rising, numbers_rise}
use Rattle.buffer_rows.specs.Pages.{IsStart}
use Rattle.layout_tables.specs.declared.pair.PairRow.{PairRow}
use Rattle.layout_tables.specs.Pairs.{glyph_pair_values, row_of_glyphs}
use Rattle.layout_tables.specs.PairRows.{AreBetween, AreStarts, pair_order, pairs_rise, rows_of_first, second_values}
use Rattle.buffer_rows.proofs.Paged.{was_or_is}

abbrev pub first_of : PairRow → ℕ
first_of r = r.first

abbrev rise : Option (ℕ × ℕ) → List PairRow → Bool
rise before rows = is_rising pair_order (λ (r : PairRow). (r.first, r.second)) before rows

is_above_first : (a b c d : ℕ) → is_lt (ordering_then (nat_cmp a c) (nat_cmp b d)) ≡ true → a ≤ c
is_above_first a b c d e = grind (arith, nat_tests, e)

rest_rises : (before : Option (ℕ × ℕ)) (r : PairRow) (rows : List PairRow) → rise before (r ∷ rows) ≡ true → rise (Some (r.first, r.second)) rows ≡ true
rest_rises before r rows e = (and_parts (is_above pair_order before (r.first, r.second)) (rise (Some (r.first, r.second)) rows) e).1

next_above : (b : ℕ × ℕ) (r : PairRow) (rows : List PairRow) → rise (Some b) (r ∷ rows) ≡ true → is_lt (pair_order b (r.first, r.second)) ≡ true
next_above b r rows e = (and_parts (is_above pair_order (Some b) (r.first, r.second)) (rise (Some (r.first, r.second)) rows) e).0

first_above : (b : ℕ × ℕ) (r : PairRow) (rows : List PairRow) → rise (Some b) (r ∷ rows) ≡ true → b.0 ≤ r.first
first_above b r rows e = is_above_first b.0 b.1 r.first r.second (next_above b r rows e)

firsts_above : (b : ℕ × ℕ) (rows : List PairRow) (i : ℕ) (d : PairRow) → rise (Some b) rows ≡ true → i < length rows → b.0 ≤ (get_or rows i d).first
firsts_above b [] i d e lt = absurd (omega (arith, lt))
firsts_above b (r ∷ rows) zero d e lt = first_above b r rows e
firsts_above b (r ∷ rows) (suc i) d e lt =
    let here : b.0 ≤ r.first = first_above b r rows e in
    let there : r.first ≤ (get_or rows i d).first = firsts_above (r.first, r.second) rows i d (rest_rises (Some b) r rows e) (omega (arith, lt)) in
    omega (arith, here, there)

firsts_rise_after : (before : Option (ℕ × ℕ)) (rows : List PairRow) → rise before rows ≡ true → IsNonDecreasingBy first_of rows
firsts_rise_after before [] e i j d le lt = absurd (omega (arith, lt))
firsts_rise_after before (r ∷ rows) e zero zero d le lt = omega arith
firsts_rise_after before (r ∷ rows) e zero (suc j) d le lt = firsts_above (r.first, r.second) rows j d (rest_rises before r rows e) (omega (arith, lt))
firsts_rise_after before (r ∷ rows) e (suc i) zero d le lt = absurd (omega (arith, le))
firsts_rise_after before (r ∷ rows) e (suc i) (suc j) d le lt = firsts_rise_after (Some (r.first, r.second)) rows (rest_rises before r rows e) i j d (omega (arith, le)) (omega (arith, lt))

-- the first glyphs of rows that rise don't fall
pub firsts_rise : (rows : List PairRow) → pairs_rise rows ≡ true → IsNonDecreasingBy first_of rows
firsts_rise rows e = firsts_rise_after None rows e

-- ---- a filter that keeps none, or a stretch

above : (a b : ℕ) → b < a → nat_eq a b ≡ false
above a b lt = ne_eqb a b (λ (e : a ≡ b). omega (arith, lt, e))

below : (a b : ℕ) → a < b → nat_eq a b ≡ false
below a b lt = ne_eqb a b (λ (e : a ≡ b). omega (arith, lt, e))

none_of : (first : ℕ) (rows : List PairRow) → ((i : ℕ) (d : PairRow) → i < length rows → nat_eq (get_or rows i d).first first ≡ false) → rows_of_first first rows ≡ []
none_of first [] h = refl
none_of first (r ∷ rows) h = rw (h 0 r (omega arith)) (none_of first rows (λ i d lt. h (suc i) d (omega (arith, lt))))

all_of : (first end : ℕ) (rows : List PairRow) → ((i : ℕ) (d : PairRow) → i < end → i < length rows → nat_eq (get_or rows i d).first first ≡ true)
    → ((i : ℕ) (d : PairRow) → end ≤ i → i < length rows → nat_eq (get_or rows i d).first first ≡ false) → rows_of_first first rows ≡ take end rows
all_of first zero [] all none = refl
all_of first (suc end) [] all none = refl
all_of first zero (r ∷ rows) all none = none_of first (r ∷ rows) (λ i d lt. none i d (omega arith) lt)
all_of first (suc end) (r ∷ rows) all none =
    rw (all 0 r (omega arith) (omega arith)) (ap (λ rs. r ∷ rs) (all_of first end rows (λ i d lt in_rows. all (suc i) d (omega (arith, lt)) (omega (arith, in_rows))) (λ i d le in_rows. none (suc i) d (omega (arith, le)) (omega (arith, in_rows)))))

stretch : (first start end : ℕ) (rows : List PairRow) → start ≤ length rows
    → ((i : ℕ) (d : PairRow) → i < start → nat_eq (get_or rows i d).first first ≡ false)
    → ((i : ℕ) (d : PairRow) → start ≤ i → i < end → i < length rows → nat_eq (get_or rows i d).first first ≡ true)
    → ((i : ℕ) (d : PairRow) → start ≤ i → end ≤ i → i < length rows → nat_eq (get_or rows i d).first first ≡ false) → rows_of_first first rows ≡ take (end - start) (drop start rows)
stretch first zero end rows le before all after =
    let whole : end ≡ end - 0 = omega arith in
    all_of first end rows (λ i d lt in_rows. all i d (omega arith) lt in_rows) (λ i d past in_rows. after i d (omega arith) past in_rows) ∙ ap (λ n. take n rows) whole
stretch first (suc start) end [] le before all after = absurd (omega (arith, le))
stretch first (suc start) zero (r ∷ rows) le before all after =
    let none : 0 ≡ 0 - suc start = omega arith in
    none_of first (r ∷ rows) (λ i d lt. elim (cases_lt i (suc start)) [
      | inl low ↦ before i d low
      | inr high ↦ after i d high (omega arith) lt
    ]) ∙ ap (λ n. take n (drop start rows)) none
stretch first (suc start) (suc end) (r ∷ rows) le before all after =
    let less : end - start ≡ suc end - suc start = omega arith in
    rw (before 0 r (omega arith)) (stretch first start end rows (omega (arith, le)) (λ i d lt. before (suc i) d (omega (arith, lt)))
    (λ i d low high in_rows. all (suc i) d (omega (arith, low)) (omega (arith, high)) (omega (arith, in_rows)))
    (λ i d low past in_rows. after (suc i) d (omega (arith, low)) (omega (arith, past)) (omega (arith, in_rows)))) ∙ ap (λ n. take n (drop start rows)) less

equal : (a b : ℕ) → a ≡ b → nat_eq a b ≡ true
equal a b e = grind (arith, nat_tests, e)

-- the rows from the start of a glyph to the start of the next one are its rows
pub rows_between : (first start end : ℕ) (rows : List PairRow) → IsStart first_of rows first start → IsStart first_of rows (first + 1) end → take (end - start) (drop start rows) ≡ rows_of_first first rows
rows_between first start end rows from to = sym (stretch first start end rows from.within
    (λ i d lt. below (get_or rows i d).first first (from.below i d lt))
    (λ i d low high in_rows. let least = from.rest i d low in_rows in let most = to.below i d high in equal (get_or rows i d).first first (omega (arith, least, most)))
    (λ i d low past in_rows. let over = to.rest i d past in_rows in above (get_or rows i d).first first (omega (arith, over))))

-- the start of a glyph is not after that of the next one
pub starts_ordered : (first start end : ℕ) (rows : List PairRow) → IsStart first_of rows first start → IsStart first_of rows (first + 1) end → start ≤ end
starts_ordered first start end rows from to = elim (cases_lt end start) [
  | inl lt ↦
      let d : PairRow = some_row rows (omega (arith, lt, from.within)) in
      let low = from.below end d lt in
      let high = to.rest end d (omega arith) (omega (arith, lt, from.within)) in
      absurd (omega (arith, low, high))
  | inr le ↦ le
]
  where
    some_row : (rows : List PairRow) → 0 < length rows → PairRow
    some_row [] lt = absurd (omega (arith, lt))
    some_row (r ∷ rows) lt = r

-- ---- the first and the last glyph

pub within_ends : (rows : List PairRow) (x y : PairRow) → pairs_rise rows ≡ true → slice_get rows 0 ≡ Some x → slice_get rows (length rows - 1) ≡ Some y → AreBetween rows x.first y.first
within_ends rows x y rising first last = record {
  below = λ g lt. none_of g rows (λ i d in_rows.
      let least : (get_or rows 0 d).first ≤ (get_or rows i d).first = firsts_rise rows rising 0 i d (omega arith) in_rows in
      let is : (get_or rows 0 d).first ≡ x.first = ap first_of (get_or_from_slice_get rows 0 x d first) in
      above (get_or rows i d).first g (omega (arith, lt, least, is)));
  above = λ g lt. none_of g rows (λ i d in_rows.
      let most : (get_or rows i d).first ≤ (get_or rows (length rows - 1) d).first = firsts_rise rows rising i (length rows - 1) d (omega (arith, in_rows)) (omega (arith, in_rows)) in
      let is : (get_or rows (length rows - 1) d).first ≡ y.first = ap first_of (get_or_from_slice_get rows (length rows - 1) y d last) in
      below (get_or rows i d).first g (omega (arith, lt, most, is)));
}

empty_between : (first last : ℕ) → AreBetween [] first last
empty_between first last = record { below = λ g lt. refl; above = λ g lt. refl }

pub none_first : (rows : List PairRow) (first last : ℕ) → slice_get rows 0 ≡ None → AreBetween rows first last
none_first [] first last h = empty_between first last
none_first (r ∷ rows) first last h = cc

last_there : (r : PairRow) (rows : List PairRow) → slice_get (r ∷ rows) (length rows) ≡ None → ⊥
last_there r [] h = cc
last_there r (s ∷ rows) h = last_there s rows h

pub none_last : (rows : List PairRow) (first last : ℕ) → slice_get rows (length rows - 1) ≡ None → AreBetween rows first last
none_last [] first last h = empty_between first last
none_last (r ∷ rows) first last h =
    let back : suc (length rows) - 1 ≡ length rows = omega arith in
    absurd (last_there r rows (rw back at h))

-- ---- the entries

pub no_starts : (rows : List PairRow) (first : ℕ) → AreStarts rows [] first
no_starts rows first = λ k start e. cc

last_one : (xs : List ℕ) (x i y : ℕ) → slice_get (xs ++ x ∷ []) i ≡ Some y → length xs ≤ i → (i ≡ length xs) × (y ≡ x)
last_one [] x zero y h le = (refl, cc)
last_one [] x (suc i) y h le = cc
last_one (z ∷ zs) x zero y h le = absurd (omega (arith, le))
last_one (z ∷ zs) x (suc i) y h le = let rest = last_one zs x i y h (omega (arith, le)) in (omega (arith, rest.0), rest.1)

pub starts_grow : (rows : List PairRow) (starts : List ℕ) (first count start : ℕ) → length starts ≡ count → AreStarts rows starts first → IsStart first_of rows (first + count) start → AreStarts rows (starts ++ start ∷ []) first
starts_grow rows starts first count start long so_far here = λ k s e. elim (cases_lt k (length starts)) [
  | inl lt ↦ so_far k s (was_or_is starts start k s e lt)
  | inr le ↦
      let is = last_one starts start k s e le in
      rw is.1 (rw (is.0 ∙ long) here)
]

-- ---- the second glyphs of a first glyph

seconds_above : (a b c d : ℕ) → is_lt (ordering_then (nat_cmp a c) (nat_cmp b d)) ≡ true → a ≡ c → is_lt (nat_cmp b d) ≡ true
seconds_above a b c d e same = grind (arith, nat_tests, e, same)

-- rows after a pair whose first glyph is above a glyph aren't that glyph's
none_past : (first : ℕ) (b : ℕ × ℕ) (rows : List PairRow) → rise (Some b) rows ≡ true → first < b.0 → rows_of_first first rows ≡ []
none_past first b rows e lt = none_of first rows (λ i d in_rows.
    let up = firsts_above b rows i d e in_rows in
    above (get_or rows i d).first first (omega (arith, lt, up)))

-- the second glyph of the row before, where that is of the same first glyph
abbrev second_before : ℕ → Option (ℕ × ℕ) → Option ℕ
second_before first None = None
second_before first (Some b) = if b.0 == first then Some b.1 else None

is_next : (first : ℕ) (before : Option (ℕ × ℕ)) (r : PairRow) (rows : List PairRow) → rise before (r ∷ rows) ≡ true → nat_eq r.first first ≡ true → is_above nat_cmp (second_before first before) r.second ≡ true
is_next first None r rows e here = refl
is_next first (Some b) r rows e here = by_test (nat_eq b.0 first) refl
  where
    by_test : (t : Bool) → nat_eq b.0 first ≡ t → is_above nat_cmp (if t then Some b.1 else None) r.second ≡ true
    by_test true same = seconds_above b.0 b.1 r.first r.second (next_above b r rows e) (eqb-true b.0 first same ∙ sym (eqb-true r.first first here))
    by_test false other = refl

seconds_rise_after : (first : ℕ) (before : Option (ℕ × ℕ)) (rows : List PairRow) → rise before rows ≡ true → is_rising nat_cmp (λ (r : PairRow). r.second) (second_before first before) (rows_of_first first rows) ≡ true
seconds_rise_after first before [] e = refl
seconds_rise_after first before (r ∷ rows) e = by_test (nat_eq r.first first) refl (seconds_rise_after first (Some (r.first, r.second)) rows (rest_rises before r rows e))
  where
    rest : List PairRow
    rest = rows_of_first first rows

    passed : (before : Option (ℕ × ℕ)) → rise before (r ∷ rows) ≡ true → nat_eq r.first first ≡ false → is_rising nat_cmp (λ (r : PairRow). r.second) None rest ≡ true → is_rising nat_cmp (λ (r : PairRow). r.second) (second_before first before) rest ≡ true
    passed None e other later = later
    passed (Some b) e other later = by_first (nat_eq b.0 first) refl
      where
        by_first : (t : Bool) → nat_eq b.0 first ≡ t → is_rising nat_cmp (λ (r : PairRow). r.second) (if t then Some b.1 else None) rest ≡ true
        by_first true same =
            let up = first_above b r rows e in
            let over : first < r.first = omega (arith, up, eqb-true b.0 first same, eqb-false r.first first other) in
            rw (none_past first (r.first, r.second) rows (rest_rises (Some b) r rows e) over) refl
        by_first false apart = later

    by_test : (t : Bool) → nat_eq r.first first ≡ t → is_rising nat_cmp (λ (r : PairRow). r.second) (if t then Some r.second else None) rest ≡ true
        → is_rising nat_cmp (λ (r : PairRow). r.second) (second_before first before) (if t then r ∷ rest else rest) ≡ true
    by_test true here later = rw (is_next first before r rows e here) later
    by_test false other later = passed before e other later

-- the rows of a first glyph are in the order of their second glyphs
pub seconds_rise : (first : ℕ) (rows : List PairRow) → pairs_rise rows ≡ true → numbers_rise (λ (r : PairRow). r.second) (rows_of_first first rows) ≡ true
seconds_rise first rows e = seconds_rise_after first None rows e

-- ---- what is found among the rows of a first glyph

row_found : (first second : ℕ) (rows : List PairRow) → find (λ (r : PairRow). r.second == second) (rows_of_first first rows) ≡ row_of_glyphs first second rows
row_found first second [] = refl
row_found first second (r ∷ rows) = by_test (nat_eq r.first first) (nat_eq r.second second) (row_found first second rows)
  where
    by_test : (t u : Bool) → find (λ (r : PairRow). r.second == second) (rows_of_first first rows) ≡ row_of_glyphs first second rows
        → find (λ (r : PairRow). r.second == second) (if t then r ∷ rows_of_first first rows else rows_of_first first rows) ≡ (if t && nat_eq r.second second then Some r else row_of_glyphs first second rows)
    by_test true u later = ap (λ o. if nat_eq r.second second then Some r else o) later
    by_test false u later = later

-- the values of a second glyph among the rows of the first are those of the pair
pub values_found : (first second : ℕ) (rows : List PairRow) → second_values second (rows_of_first first rows) ≡ glyph_pair_values first second rows
values_found first second rows = ap (option_map (λ (r : PairRow). r.values)) (row_found first second rows)

-- whether a glyph is the first of pairs is whether it has rows
pub first_any : (first : ℕ) (rows : List PairRow) → (length (rows_of_first first rows) == 0) ≡ not (list_any (λ (r : PairRow). r.first == first) rows)
first_any first [] = refl
first_any first (r ∷ rows) = by_test (nat_eq r.first first) (first_any first rows)
  where
    by_test : (t : Bool) → (length (rows_of_first first rows) == 0) ≡ not (list_any (λ (r : PairRow). r.first == first) rows)
        → (length (if t then r ∷ rows_of_first first rows else rows_of_first first rows) == 0) ≡ not (t || list_any (λ (r : PairRow). r.first == first) rows)
    by_test true later = grind (arith, nat_tests)
    by_test false later = later
