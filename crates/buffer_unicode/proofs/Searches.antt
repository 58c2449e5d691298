-- Searches of rows in the order of their keys.
use Rattle.std.proofs.Common.{ℕ, ◌≡◌, ◌==◌, ◌&&◌, Bool, true, false, List, [], ◌∷◌, ◌++◌, Option, Some, None, refl, ◌∙◌, append_assoc, inl, inr, arith}
use Rattle.std.proofs.lemmas.Bool.{and_parts, and_cases, and_from, cond-true, cond-false, cond_both}
use Rattle.std.proofs.lemmas.Bool.Decides.{nat_tests}
use Rattle.std.specs.List.{find, list_all}
use Rattle.std.specs.Ordering.{is_lt, nat_cmp}
use Rattle.buffer_rows.specs.Keys as Rising
use Rattle.buffer_unicode.specs.Keys.{is_below, precedes, follows, rises_after, is_rising, is_at}

pub below_trans : (a b c d e f : ℕ) → is_below a b c d ≡ true → is_below c d e f ≡ true → is_below a b e f ≡ true
below_trans a b c d e f p q = grind (arith, nat_tests)

between_is_at : (a b c d : ℕ) → is_below a b c d ≡ false → is_below c d a b ≡ false → (a == c && b == d) ≡ true
between_is_at a b c d p q = grind (arith, nat_tests)

rises_weaker : {R : Type 0} (high low : R → ℕ) (before x : R) (xs : List R) → precedes high low before x ≡ true → rises_after high low (Some x) xs ≡ true → rises_after high low (Some before) xs ≡ true
rises_weaker high low before x [] p r = refl
rises_weaker high low before x (y ∷ ys) p r =
    let parts = and_parts (precedes high low x y) (rises_after high low (Some y) ys) r in
    and_from _ _ (below_trans (high before) (low before) (high x) (low x) (high y) (low y) p parts.0) parts.1

-- what is after a row is above it
rise_after : {R : Type 0} (high low : R → ℕ) (before : R) (front : List R) (row : R) (after : List R)
    → rises_after high low (Some before) (front ++ row ∷ after) ≡ true → precedes high low before row ≡ true
rise_after high low before [] row after r = (and_parts _ _ r).0
rise_after high low before (y ∷ ys) row after r =
    let parts = and_parts (precedes high low before y) (rises_after high low (Some y) (ys ++ row ∷ after)) r in
    rise_after high low before ys row after (rises_weaker high low before y (ys ++ row ∷ after) parts.0 parts.1)

pub first_rises : {R : Type 0} (high low : R → ℕ) (before : Option R) (x : R) (xs : List R) → rises_after high low before (x ∷ xs) ≡ true → rises_after high low (Some x) xs ≡ true
first_rises high low before x xs r = (and_parts (follows high low before x) (rises_after high low (Some x) xs) r).1

pub forget_first : {R : Type 0} (high low : R → ℕ) (before : Option R) (xs : List R) → rises_after high low before xs ≡ true → is_rising high low xs ≡ true
forget_first high low before [] r = refl
forget_first high low before (x ∷ xs) r = first_rises high low before x xs r

at_row : {R : Type 0} (high low : R → ℕ) (h l : ℕ) (front : List R) (row : R) (after : List R)
    → is_rising high low (front ++ row ∷ after) ≡ true → is_below (high row) (low row) h l ≡ false → is_below h l (high row) (low row) ≡ false
    → find (is_at high low h l) (front ++ row ∷ after) ≡ Some row
at_row high low h l [] row after r p q = cond-true _ _ _ (between_is_at (high row) (low row) h l p q)
at_row high low h l (y ∷ ys) row after r p q =
    let under = rise_after high low y ys row after r in
    let apart : (high y == h && low y == l) ≡ false = grind (arith, nat_tests) in
    cond-false _ _ _ apart ∙ at_row high low h l ys row after (forget_first high low (Some y) (ys ++ row ∷ after) r) p q

-- what is found passes each test that all rows pass
pub find_passes : {X : Type 0} (p q : X → Bool) (xs : List X) (x : X) → find p xs ≡ Some x → list_all q xs ≡ true → (p x ≡ true) × (q x ≡ true)
find_passes p q [] x e h = cc
find_passes p q (y ∷ ys) x e h =
    let parts = and_parts (q y) (list_all q ys) h in
    cond_both (p y) _ _ (λ o. o ≡ Some x → (p x ≡ true) × (q x ≡ true))
    (λ passes same. let at : y ≡ x = cc in (rw at at passes, rw at at parts.0))
    (λ _ later. find_passes p q ys x later parts.1)
    e

-- a test that every row passes
pub all_pass : {X : Type 0} (q : X → Bool) (xs : List X) → ((x : X) → q x ≡ true) → list_all q xs ≡ true
all_pass q [] h = refl
all_pass q (x ∷ xs) h = and_from _ _ (h x) (all_pass q xs h)

-- a row that fails a test, and is found by its key
pub record FailingRow {R : Type 0} (high low : R → ℕ) (q : R → Bool) (rows : List R) : Type 0 where
  pub row : R
  pub fails : q row ≡ false
  pub found : find (is_at high low (high row) (low row)) rows ≡ Some row

not_below_itself : (h l : ℕ) → is_below h l h l ≡ false
not_below_itself h l = grind (arith, nat_tests)

failing_from : {R : Type 0} (high low : R → ℕ) (q : R → Bool) (front rest : List R) → is_rising high low (front ++ rest) ≡ true → list_all q rest ≡ false → FailingRow high low q (front ++ rest)
failing_from high low q front [] r h = cc
failing_from high low q front (x ∷ xs) r h =
    elim (and_cases (q x) (list_all q xs) h) [
      | inl here ↦ record {
        row = x;
        fails = here;
        found = at_row high low (high x) (low x) front x xs r (not_below_itself (high x) (low x)) (not_below_itself (high x) (low x));
      }
      | inr later ↦
          let e = append_assoc front (x ∷ []) xs in
          rw e at (failing_from high low q (front ++ x ∷ []) xs (rw e r) later)
    ]

pub failing_row : {R : Type 0} (high low : R → ℕ) (q : R → Bool) (rows : List R) → is_rising high low rows ≡ true → list_all q rows ≡ false → FailingRow high low q rows
failing_row high low q rows r h = failing_from high low q [] rows r h

-- ---- keys of one number

below_numbers : (a b : ℕ) → is_lt (nat_cmp a b) ≡ is_below 0 a 0 b
below_numbers a b = grind (arith, nat_tests)

numbers_after : {R : Type 0} (key : R → ℕ) (before : R) (rows : List R) → rises_after (λ _. 0) key (Some before) rows ≡ true → Rising.is_rising nat_cmp key (Some (key before)) rows ≡ true
numbers_after key before [] h = refl
numbers_after key before (r ∷ rows) h =
    let parts = and_parts (precedes (λ _. 0) key before r) (rises_after (λ _. 0) key (Some r) rows) h in
    and_from _ _ (below_numbers (key before) (key r) ∙ parts.0) (numbers_after key r rows parts.1)

-- rows rise by their numbers
pub numbers_from : {R : Type 0} (key : R → ℕ) (rows : List R) → is_rising (λ _. 0) key rows ≡ true → Rising.numbers_rise key rows ≡ true
numbers_from key [] h = refl
numbers_from key (r ∷ rows) h = numbers_after key r rows (first_rises (λ _. 0) key None r rows h)
