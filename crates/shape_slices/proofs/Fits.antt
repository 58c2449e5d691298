-- The tests of clusters decide whether they fit a text.
use Rattle.std.proofs.Common.{ℕ, ◌≡◌, ◌≤◌, ◌<◌, ◌==◌, ◌&&◌, ◌||◌, ◌⊎◌, ◌↔◌, inl, inr, Bool, true, false, not, nat_le, nat_lt, IsTrue, List, [], ◌∷◌, arith, refl, sym, ap, subst, ◌∙◌}
use Rattle.std.specs.List.{list_all}
use Rattle.std.proofs.lemmas.Bool.{and_parts}
use Rattle.std.proofs.lemmas.Bool.Decides.{nat_tests}
use Rattle.std.proofs.lemmas.Grind.{common_steps}
use Rattle.buffer_glyphs.specs.Order.{AllFrom, BringsNone, IsFalling, IsInOrder, IsOrdered, IsRising, has_number}
use Rattle.buffer_glyphs.specs.Lemmas.Numbers.{Has, has_cases, has_here, has_more}
use Rattle.buffer_parts.specs.Fits.{FitsText}
use Rattle.buffer_parts.specs.Slices.{first_or}
use Rattle.buffer_core.specs.Sides.{Sides, all_glyphs}
use Rattle.buffer_glyphs.specs.Items.{clusters}
use Rattle.shape_slices.specs.Deciding.{are_fitting, are_fitting_units, fall_from, rise_from}
use Rattle.shape_slices.specs.Fitting.{UnitsFit}
use Rattle.buffer_facts.proofs.Truth.{or_first as first_true, or_second as second_true, either_true, and_true as both_true}
use Rattle.buffer_facts.proofs.Numbers.{at_most_by_test as le_of, test_of_at_most as of_le}

-- ---- order

no_less : (m n : ℕ) (ns : List ℕ) → m ≤ n → AllFrom (λ a b. a ≤ b) n ns → AllFrom (λ a b. a ≤ b) m ns
no_less m n [] le h = tt
no_less m n (k ∷ ns) le h = let first = h.0 in (omega (arith, first, le), no_less m n ns le h.1)

no_more : (m n : ℕ) (ns : List ℕ) → n ≤ m → AllFrom (λ a b. b ≤ a) n ns → AllFrom (λ a b. b ≤ a) m ns
no_more m n [] le h = tt
no_more m n (k ∷ ns) le h = let first = h.0 in (omega (arith, first, le), no_more m n ns le h.1)

rising_from : (last : ℕ) (ns : List ℕ) → rise_from last ns ≡ true → IsRising (last ∷ ns)
rising_from last [] e = (tt, tt)
rising_from last (n ∷ ns) e =
    let both = and_parts (nat_le last n) (rise_from n ns) e in
    let le = le_of last n both.0 in
    let rest = rising_from n ns both.1 in
    ((le, no_less last n ns le rest.0), rest)

rises_from : (last : ℕ) (ns : List ℕ) → IsRising (last ∷ ns) → rise_from last ns ≡ true
rises_from last [] h = refl
rises_from last (n ∷ ns) h = both_true (nat_le last n) (rise_from n ns) (of_le last n h.0.0) (rises_from n ns h.1)

falling_from : (last : ℕ) (ns : List ℕ) → fall_from last ns ≡ true → IsFalling (last ∷ ns)
falling_from last [] e = (tt, tt)
falling_from last (n ∷ ns) e =
    let both = and_parts (nat_le n last) (fall_from n ns) e in
    let le = le_of n last both.0 in
    let rest = falling_from n ns both.1 in
    ((le, no_more last n ns le rest.0), rest)

falls_from : (last : ℕ) (ns : List ℕ) → IsFalling (last ∷ ns) → fall_from last ns ≡ true
falls_from last [] h = refl
falls_from last (n ∷ ns) h = both_true (nat_le n last) (fall_from n ns) (of_le n last h.0.0) (falls_from n ns h.1)

from_zero : (ns : List ℕ) → AllFrom (λ a b. a ≤ b) 0 ns
from_zero [] = tt
from_zero (n ∷ ns) = (omega arith, from_zero ns)

falls_first : (ns : List ℕ) → IsFalling ns → fall_from (first_or 0 ns) ns ≡ true
falls_first [] h = refl
falls_first (n ∷ ns) h = both_true (nat_le n n) (fall_from n ns) (of_le n n (omega arith)) (falls_from n ns h)

ordered_from : (ns : List ℕ) → (rise_from 0 ns || fall_from (first_or 0 ns) ns) ≡ true → IsOrdered ns
ordered_from ns e = elim (either_true (rise_from 0 ns) (fall_from (first_or 0 ns) ns) e) [
  | inl rises ↦ inl (let h = rising_from 0 ns rises in h.1)
  | inr falls ↦ inr (let h = falling_from (first_or 0 ns) ns falls in h.1)
]

from_ordered : (ns : List ℕ) → IsOrdered ns → (rise_from 0 ns || fall_from (first_or 0 ns) ns) ≡ true
from_ordered ns o = elim o [
  | inl rises ↦ first_true (rise_from 0 ns) (fall_from (first_or 0 ns) ns) (rises_from 0 ns (from_zero ns, rises))
  | inr falls ↦ second_true (rise_from 0 ns) (fall_from (first_or 0 ns) ns) (falls_first ns falls)
]

-- ---- starts

starts_from : (starts ns : List ℕ) → list_all (λ n. has_number starts n) ns ≡ true → BringsNone starts ns
starts_from starts [] e n h = cc
starts_from starts (m ∷ ms) e n h =
    let both = and_parts (has_number starts m) (list_all (λ k. has_number starts k) ms) e in
    elim (has_cases m n ms h) [ inl here ↦ subst (Has starts) here both.0 | inr later ↦ starts_from starts ms both.1 n later ]

from_starts : (starts ns : List ℕ) → BringsNone starts ns → list_all (λ n. has_number starts n) ns ≡ true
from_starts starts [] h = refl
from_starts starts (m ∷ ms) h = both_true (has_number starts m) (list_all (λ k. has_number starts k) ms) (h m (has_here m ms)) (from_starts starts ms (λ n k. h n (has_more m n ms k)))

-- ---- units

below_from : (end : ℕ) (ns : List ℕ) → list_all (λ n. nat_lt n end) ns ≡ true → (n : ℕ) → Has ns n → n < end
below_from end [] e n h = cc
below_from end (m ∷ ms) e n h =
    let both = and_parts (nat_lt m end) (list_all (λ k. nat_lt k end) ms) e in
    elim (has_cases m n ms h) [ inl here ↦ subst (λ k. k < end) here (lt_of m end both.0) | inr later ↦ below_from end ms both.1 n later ]
  where
    lt_of : (a b : ℕ) → nat_lt a b ≡ true → a < b
    lt_of a b e = grind (arith, nat_tests, e)

from_below : (end : ℕ) (ns : List ℕ) → ((n : ℕ) → Has ns n → n < end) → list_all (λ n. nat_lt n end) ns ≡ true
from_below end [] h = refl
from_below end (m ∷ ms) h = both_true (nat_lt m end) (list_all (λ k. nat_lt k end) ms) (of_lt m end (h m (has_here m ms))) (from_below end ms (λ n k. h n (has_more m n ms k)))
  where
    of_lt : (a b : ℕ) → a < b → nat_lt a b ≡ true
    of_lt a b lt = grind (arith, nat_tests, lt)

abbrev are_below : ℕ → List ℕ → Bool
are_below end ns = list_all (λ n. nat_lt n end) ns

units_from_tests : (result : Sides) (end : ℕ) → are_fitting_units end (clusters (all_glyphs result)) ≡ true → UnitsFit result end
units_from_tests result end e =
    let ns = clusters (all_glyphs result) in
    let all = and_parts ((rise_from 0 ns || fall_from (first_or 0 ns) ns) && are_below end ns) (has_number ns 0) e in
    let both = and_parts (rise_from 0 ns || fall_from (first_or 0 ns) ns) (are_below end ns) all.0 in
    record { ordered = ordered_from ns both.0; within = below_from end ns both.1; zero_there = all.1 }

tests_from_units : (result : Sides) (end : ℕ) → UnitsFit result end → are_fitting_units end (clusters (all_glyphs result)) ≡ true
tests_from_units result end f =
    let ns = clusters (all_glyphs result) in
    both_true ((rise_from 0 ns || fall_from (first_or 0 ns) ns) && are_below end ns) (has_number ns 0)
    (both_true (rise_from 0 ns || fall_from (first_or 0 ns) ns) (are_below end ns) (from_ordered ns f.ordered) (from_below end ns f.within))
    f.zero_there

-- the tests of clusters decide whether they fit a text of units
pub units_exactly : (result : Sides) (end : ℕ) → IsTrue (are_fitting_units end (clusters (all_glyphs result))) ↔ UnitsFit result end
units_exactly result end = (units_from_tests result end, tests_from_units result end)

-- ---- all

pub fits_from_tests : (starts ns : List ℕ) → are_fitting starts ns ≡ true → FitsText starts ns
fits_from_tests starts ns e =
    let all = and_parts ((rise_from 0 ns || fall_from (first_or 0 ns) ns) && list_all (λ n. has_number starts n) ns) (has_number ns 0) e in
    let both = and_parts (rise_from 0 ns || fall_from (first_or 0 ns) ns) (list_all (λ n. has_number starts n) ns) all.0 in
    record { ordered = ordered_from ns both.0; starting = starts_from starts ns both.1; zero_there = all.1 }

pub tests_from_fits : (starts ns : List ℕ) → FitsText starts ns → are_fitting starts ns ≡ true
tests_from_fits starts ns f =
    both_true ((rise_from 0 ns || fall_from (first_or 0 ns) ns) && list_all (λ n. has_number starts n) ns) (has_number ns 0)
    (both_true (rise_from 0 ns || fall_from (first_or 0 ns) ns) (list_all (λ n. has_number starts n) ns) (from_ordered ns f.ordered) (from_starts starts ns f.starting))
    f.zero_there

-- clusters that fit a text and don't rise fall
pub order_of_fitting : (starts ns : List ℕ) → FitsText starts ns → IsInOrder (not (rise_from 0 ns)) ns
order_of_fitting starts ns f = by_test (rise_from 0 ns) refl
  where
    falling : rise_from 0 ns ≡ false → IsOrdered ns → IsFalling ns
    falling e (inl rises) = let bad : rise_from 0 ns ≡ true = rises_from 0 ns (from_zero ns, rises) in cc
    falling e (inr falls) = falls

    by_test : (b : Bool) → rise_from 0 ns ≡ b → IsInOrder (not b) ns
    by_test true e = let h = rising_from 0 ns e in h.1
    by_test false e = falling e f.ordered

pub fits_exactly : (starts ns : List ℕ) → IsTrue (are_fitting starts ns) ↔ FitsText starts ns
fits_exactly starts ns = (fits_from_tests starts ns, tests_from_fits starts ns)
