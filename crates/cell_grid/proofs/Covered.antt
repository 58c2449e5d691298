-- Runs by their cells.
use Rattle.std.proofs.Common.{ℕ, zero, suc, ◌≡◌, ◌≤◌, ◌<◌, ◌+◌, ◌-◌, ◌⊎◌, leb, ltb, Bool, true, false, List, [], ◌∷◌, filter, length, map, take, drop, get_or, arith, cond, inl, inr, refl, sym, ap, subst, ◌∙◌}
use Rattle.std.specs.Prelude.{All}
use Rattle.std.specs.List.Sorted.{IsNonDecreasingBy, IsPartitionPoint, IsPartitionedBy}
use Rattle.std.proofs.lemmas.Bool.{cases_lt}
use Rattle.std.proofs.lemmas.Bool.Decides.{nat_tests}
use Rattle.std.proofs.lemmas.Grind.{common_steps}
use Rattle.std.proofs.lemmas.List.{take_all}
use Rattle.std.proofs.lemmas.List.Elements.{All-head, All-more, All-tail}
use Rattle.std.proofs.lemmas.List.Sorted.{IsPartitionedBy-leb, IsPartitionedBy-ltb}
use Rattle.kuspveli.specs.buffer_parts.Slices.{AreJoined, IsIn}
use Rattle.cell_grid.specs.declared.cells.CellRun.{CellRun}
use Rattle.cell_grid.specs.Finding.{has_cell_between}
use Rattle.cell_grid.specs.Grids.{AreCells, cell_range}

-- ---- the run of a cell

-- a run doesn't have a cell
abbrev pub HasNot : ℕ → CellRun → Type 0
HasNot cell r = ¬ IsIn (cell_range r) cell

none_in : (cell from to : ℕ) (rs : List CellRun) → AreJoined from to (map cell_range rs) → All (HasNot cell) rs → from ≤ cell → to ≤ cell
none_in cell from to [] joined none le = omega (arith, joined, le)
none_in cell from to (r ∷ rs) joined none le = elim (cases_lt cell r.end_cell) [
  | inl within ↦ let first = joined.0 in absurd (All-head (HasNot cell) r rs none (omega (arith, first, le), within))
  | inr past ↦ none_in cell r.end_cell to rs joined.2 (All-tail (HasNot cell) r rs none) past
]

-- a cell that no run has is past the end of the line
past_cells : (width cell : ℕ) (rs : List CellRun) → AreCells width rs → All (HasNot cell) rs → width ≤ cell
past_cells width cell [] are none = omega (arith, are)
past_cells width cell (r ∷ rs) are none = elim (cases_lt cell r.end_cell) [
  | inl within ↦ let first = are.0 in absurd (All-head (HasNot cell) r rs none (omega (arith, first), within))
  | inr past ↦ none_in cell r.end_cell width rs are.1 (All-tail (HasNot cell) r rs none) past
]

pub past_end : (width cell : ℕ) (rs : List CellRun) (i : ℕ) → AreCells width rs → length rs ≤ i → All (HasNot cell) (take i rs) → width ≤ cell
past_end width cell rs i are past none = let P : List CellRun → Type 0 = λ qs. All (HasNot cell) qs in past_cells width cell rs are (subst P (take_all i rs past) none)

pub none_more : (cell : ℕ) (rs : List CellRun) (i : ℕ) (d : CellRun) → i < length rs → All (HasNot cell) (take i rs) → HasNot cell (get_or rs i d) → All (HasNot cell) (take (i + 1) rs)
none_more cell rs i d within none here = All-more (HasNot cell) rs i d within none here

-- ---- cells rise

-- a run has a cell, or none at the beginning of the line
abbrev pub IsRun : CellRun → Type 0
IsRun r = (r.first_cell < r.end_cell) ⊎ ((r.first_cell ≡ 0) × (r.end_cell ≡ 0))

at_least : (from to : ℕ) (rs : List CellRun) (j : ℕ) (d : CellRun) → AreJoined from to (map cell_range rs) → j < length rs → (from ≤ (get_or rs j d).first_cell) × ((get_or rs j d).first_cell < (get_or rs j d).end_cell)
at_least from to [] j d joined lt = absurd (omega (arith, lt))
at_least from to (r ∷ rs) zero d joined lt = let first = joined.0 in (omega (arith, first), joined.1)
at_least from to (r ∷ rs) (suc j) d joined lt =
    let rest = at_least r.end_cell to rs j d joined.2 (omega (arith, lt)) in
    let low = rest.0 in
    let first = joined.0 in
    let some = joined.1 in
    (omega (arith, low, first, some), rest.1)

ends_after : (from to : ℕ) (rs : List CellRun) → AreJoined from to (map cell_range rs) → IsNonDecreasingBy (λ (r : CellRun). r.end_cell) rs
ends_after from to [] joined i j d le lt = absurd (omega (arith, lt))
ends_after from to (r ∷ rs) joined zero zero d le lt = omega arith
ends_after from to (r ∷ rs) joined zero (suc j) d le lt = let rest = at_least r.end_cell to rs j d joined.2 (omega (arith, lt)) in let low = rest.0 in let some = rest.1 in omega (arith, low, some)
ends_after from to (r ∷ rs) joined (suc i) zero d le lt = absurd (omega (arith, le))
ends_after from to (r ∷ rs) joined (suc i) (suc j) d le lt = ends_after r.end_cell to rs joined.2 i j d (omega (arith, le)) (omega (arith, lt))

firsts_after : (from to : ℕ) (rs : List CellRun) → AreJoined from to (map cell_range rs) → IsNonDecreasingBy (λ (r : CellRun). r.first_cell) rs
firsts_after from to [] joined i j d le lt = absurd (omega (arith, lt))
firsts_after from to (r ∷ rs) joined zero zero d le lt = omega arith
firsts_after from to (r ∷ rs) joined zero (suc j) d le lt = let rest = at_least r.end_cell to rs j d joined.2 (omega (arith, lt)) in let low = rest.0 in let some = joined.1 in omega (arith, low, some)
firsts_after from to (r ∷ rs) joined (suc i) zero d le lt = absurd (omega (arith, le))
firsts_after from to (r ∷ rs) joined (suc i) (suc j) d le lt = firsts_after r.end_cell to rs joined.2 i j d (omega (arith, le)) (omega (arith, lt))

pub ends_rise : (width : ℕ) (rs : List CellRun) → AreCells width rs → IsNonDecreasingBy (λ (r : CellRun). r.end_cell) rs
ends_rise width [] are i j d le lt = absurd (omega (arith, lt))
ends_rise width (r ∷ rs) are zero zero d le lt = omega arith
ends_rise width (r ∷ rs) are zero (suc j) d le lt = let rest = at_least r.end_cell width rs j d are.1 (omega (arith, lt)) in let low = rest.0 in let some = rest.1 in omega (arith, low, some)
ends_rise width (r ∷ rs) are (suc i) zero d le lt = absurd (omega (arith, le))
ends_rise width (r ∷ rs) are (suc i) (suc j) d le lt = ends_after r.end_cell width rs are.1 i j d (omega (arith, le)) (omega (arith, lt))

pub firsts_rise : (width : ℕ) (rs : List CellRun) → AreCells width rs → IsNonDecreasingBy (λ (r : CellRun). r.first_cell) rs
firsts_rise width [] are i j d le lt = absurd (omega (arith, lt))
firsts_rise width (r ∷ rs) are zero j d le lt = let first = are.0 in omega (arith, first)
firsts_rise width (r ∷ rs) are (suc i) zero d le lt = absurd (omega (arith, le))
firsts_rise width (r ∷ rs) are (suc i) (suc j) d le lt = firsts_after r.end_cell width rs are.1 i j d (omega (arith, le)) (omega (arith, lt))

all_runs : (width : ℕ) (rs : List CellRun) → AreCells width rs → (i : ℕ) (d : CellRun) → i < length rs → IsRun (get_or rs i d)
all_runs width [] are i d lt = absurd (omega (arith, lt))
all_runs width (r ∷ rs) are zero d lt = elim (cases_lt 0 r.end_cell) [
  | inl some ↦ let first = are.0 in inl (omega (arith, first, some))
  | inr none ↦ inr (are.0, omega (arith, none))
]
all_runs width (r ∷ rs) are (suc i) d lt = inl (at_least r.end_cell width rs i d are.1 (omega (arith, lt))).1

-- ---- a filter that keeps what is between two indices

abbrev nothing : (X : Type 0) → List X
nothing X = []

none_taken : {X : Type 0} (n : ℕ) → take n (nothing X) ≡ nothing X
none_taken zero = refl
none_taken (suc n) = refl

none_dropped : {X : Type 0} (n : ℕ) → drop n (nothing X) ≡ nothing X
none_dropped zero = refl
none_dropped (suc n) = refl

module _ {X : Type 0} (p : X → Bool) where
  abbrev kept : X → List X → Bool → List X
  kept x xs t = cond t (x ∷ filter p xs) (filter p xs)

  pub between : (xs : List X) (from to : ℕ) → ((i : ℕ) (d : X) → i < from → i < length xs → p (get_or xs i d) ≡ false) → ((i : ℕ) (d : X) → from ≤ i → i < to → i < length xs → p (get_or xs i d) ≡ true) → ((i : ℕ) (d : X) → to ≤ i → i < length xs → p (get_or xs i d) ≡ false)
      → filter p xs ≡ take (to - from) (drop from xs)
  between [] from to low mid high = sym (ap (take (to - from)) (none_dropped from) ∙ none_taken (to - from))
  between (x ∷ xs) zero zero low mid high =
      ap (kept x xs) (high 0 x (omega arith) (omega arith))
      ∙ between xs zero zero (λ i d lt within. absurd (omega (arith, lt))) (λ i d le lt within. absurd (omega (arith, lt))) (λ i d le lt. high (suc i) d (omega arith) (omega (arith, lt)))
      ∙ ap (λ n. take n xs) none ∙ sym (ap (λ n. take n (x ∷ xs)) none)
    where
      none : 0 - 0 ≡ 0
      none = omega arith
  between (x ∷ xs) zero (suc to) low mid high =
      ap (kept x xs) (mid 0 x (omega arith) (omega arith) (omega arith))
      ∙ ap (λ ys. x ∷ ys) (between xs zero to (λ i d lt within. absurd (omega (arith, lt))) (λ i d le lt within. mid (suc i) d (omega arith) (omega (arith, lt)) (omega (arith, within))) (λ i d le lt. high (suc i) d (omega (arith, le)) (omega (arith, lt))))
      ∙ ap (λ n. x ∷ take n xs) (all to) ∙ sym (ap (λ n. take n (x ∷ xs)) (all (suc to)))
    where
      all : (n : ℕ) → n - 0 ≡ n
      all n = omega arith
  between (x ∷ xs) (suc from) zero low mid high =
      ap (kept x xs) (low 0 x (omega arith) (omega arith))
      ∙ between xs from zero (λ i d lt within. low (suc i) d (omega (arith, lt)) (omega (arith, within))) (λ i d le lt within. absurd (omega (arith, lt))) (λ i d le lt. high (suc i) d (omega arith) (omega (arith, lt)))
      ∙ ap (λ n. take n (drop from xs)) none
    where
      none : 0 - from ≡ 0 - suc from
      none = omega arith
  between (x ∷ xs) (suc from) (suc to) low mid high =
      ap (kept x xs) (low 0 x (omega arith) (omega arith))
      ∙ between xs from to (λ i d lt within. low (suc i) d (omega (arith, lt)) (omega (arith, within))) (λ i d le lt within. mid (suc i) d (omega (arith, le)) (omega (arith, lt)) (omega (arith, within))) (λ i d le lt. high (suc i) d (omega (arith, le)) (omega (arith, lt)))
      ∙ ap (λ n. take n (drop from xs)) less
    where
      less : to - from ≡ suc to - suc from
      less = omega arith

-- ---- the runs between two cells

ends_by : (r : CellRun) (from to : ℕ) → r.end_cell ≤ from → has_cell_between from to r ≡ false
ends_by r from to le = grind (arith, nat_tests, common_steps, le)

begins_from : (r : CellRun) (from to : ℕ) → to ≤ r.first_cell → has_cell_between from to r ≡ false
begins_from r from to le = grind (arith, nat_tests, common_steps, le)

none_of : (r : CellRun) (from to : ℕ) → to ≤ from → has_cell_between from to r ≡ false
none_of r from to le = grind (arith, nat_tests, common_steps, le)

has_one : (r : CellRun) (from to : ℕ) → from < to → r.first_cell < r.end_cell → from < r.end_cell → r.first_cell < to → has_cell_between from to r ≡ true
has_one r from to some own low high = grind (arith, nat_tests, common_steps, some, own, low, high)

under : (m n : ℕ) → leb m n ≡ true → m ≤ n
under m n e = grind (arith, nat_tests, e)

over : (m n : ℕ) → leb m n ≡ false → n < m
over m n e = grind (arith, nat_tests, e)

before : (m n : ℕ) → ltb m n ≡ true → m < n
before m n e = grind (arith, nat_tests, e)

after : (m n : ℕ) → ltb m n ≡ false → n ≤ m
after m n e = grind (arith, nat_tests, e)

-- the first run that ends after a cell
abbrev pub IsFirstAfter : ℕ → List CellRun → ℕ → Type 0
IsFirstAfter from rs at = IsPartitionPoint (λ (r : CellRun). leb r.end_cell from ≡ true) (λ (r : CellRun). leb r.end_cell from ≡ false) rs at

-- the first run that doesn't begin before a cell
abbrev pub IsFirstNotBefore : ℕ → List CellRun → ℕ → Type 0
IsFirstNotBefore to rs at = IsPartitionPoint (λ (r : CellRun). ltb r.first_cell to ≡ true) (λ (r : CellRun). ltb r.first_cell to ≡ false) rs at

parted : (width from to start end : ℕ) (rs : List CellRun) → AreCells width rs → from < to → IsFirstAfter from rs start → IsFirstNotBefore to rs end → filter (has_cell_between from to) rs ≡ take (end - start) (drop start rs)
parted width from to start end rs are some first last =
    between (has_cell_between from to) rs start end
    (λ i d lt within. ends_by (get_or rs i d) from to (under _ _ (first.0 i d (omega arith) lt)))
    (λ i d le lt within. mine (get_or rs i d) (all_runs width rs are i d within) (over _ _ (first.1 i d le within)) (before _ _ (last.0 i d (omega arith) lt)))
    (λ i d le within. begins_from (get_or rs i d) from to (after _ _ (last.1 i d le within)))
  where
    mine : (r : CellRun) → IsRun r → from < r.end_cell → r.first_cell < to → has_cell_between from to r ≡ true
    mine r (inl own) past before = has_one r from to some own past before
    mine r (inr none) past before = let end = none.1 in absurd (omega (arith, end, past))

-- as the code finds them in the same runs
pub found : (width from to start end : ℕ) (rs xs ys zs : List CellRun) → AreCells width rs → from < to → xs ≡ rs → ys ≡ rs → zs ≡ rs
    → (IsPartitionedBy (λ (r : CellRun). leb r.end_cell from) xs → IsFirstAfter from xs start) → (IsPartitionedBy (λ (r : CellRun). ltb r.first_cell to) ys → IsFirstNotBefore to ys end)
    → filter (has_cell_between from to) rs ≡ take (end - start) (drop start zs)
found width from to start end rs xs ys zs are some one two three first last =
    let P : List CellRun → Type 0 = λ qs. IsPartitionedBy (λ (r : CellRun). leb r.end_cell from) qs in
    let Q : List CellRun → Type 0 = λ qs. IsPartitionedBy (λ (r : CellRun). ltb r.first_cell to) qs in
    let low = IsPartitionedBy-leb (λ (r : CellRun). r.end_cell) rs from (ends_rise width rs are) in
    let high = IsPartitionedBy-ltb (λ (r : CellRun). r.first_cell) rs to (firsts_rise width rs are) in
    parted width from to start end rs are some (let S : List CellRun → Type 0 = λ qs. IsFirstAfter from qs start in subst S one (first (subst P (sym one) low))) (let S : List CellRun → Type 0 = λ qs. IsFirstNotBefore to qs end in subst S two (last (subst Q (sym two) high)))
    ∙ ap (λ qs. take (end - start) (drop start qs)) (sym three)

-- where the last isn't after the first, there are none
pub none_found : (width from to start end : ℕ) (rs xs ys : List CellRun) → AreCells width rs → from < to → xs ≡ rs → ys ≡ rs
    → (IsPartitionedBy (λ (r : CellRun). leb r.end_cell from) xs → IsFirstAfter from xs start) → (IsPartitionedBy (λ (r : CellRun). ltb r.first_cell to) ys → IsFirstNotBefore to ys end)
    → end ≤ start → filter (has_cell_between from to) rs ≡ []
none_found width from to start end rs xs ys are some one two first last le = let none : end - start ≡ 0 = omega (arith, le) in found width from to start end rs xs ys rs are some one two refl first last ∙ ap (λ n. take n (drop start rs)) none

pub none_between : (rs : List CellRun) (from to : ℕ) → to ≤ from → filter (has_cell_between from to) rs ≡ []
none_between [] from to le = refl
none_between (r ∷ rs) from to le = ap (λ t. cond t (r ∷ filter (has_cell_between from to) rs) (filter (has_cell_between from to) rs)) (none_of r from to le) ∙ none_between rs from to le
