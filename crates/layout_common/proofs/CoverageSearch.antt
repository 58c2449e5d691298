-- A binary search in the glyphs of a set, which are in rising order.
use Rattle.std.proofs.Common.{◌≡◌, ℕ, zero, suc, Bool, true, false, ◌||◌, ◌==◌, List, [], ◌∷◌, length, Result, Ok, Err, inl, inr, refl, sym, arith, is_ok}
use Rattle.std.specs.declared.cmp.Ordering.TheVariants.{Less, Equal, Greater}
use Rattle.std.specs.Ordering.{nat_cmp}
use Rattle.std.specs.Cmp.{nat_cmp_total}
use Rattle.std.specs.List.{Contains}
use Rattle.std.specs.List.Sorted.{IsSearchInRange, IsBinarySearchResult, IsPermutation, IsSorted}
use Rattle.std.proofs.lemmas.Bool.{cases_lt, or_left, or_right}
use Rattle.std.proofs.lemmas.Bool.Decides.{nat_tests}
use Rattle.std.proofs.lemmas.List.Sorted.{searchable_from_sorted, Contains-permutation, IsPermutation-sym}
use Rattle.layout_common.specs.Coverage.{is_covered}
use Rattle.layout_common.proofs.Bits.{same_truth as alike}
use Rattle.buffer_facts.proofs.Numbers.{same_by_test as same_number, test_of_same as itself}

covered_there : (g x : ℕ) (xs : List ℕ) (b : Bool) → (x == g) ≡ b → (b || is_covered g xs) ≡ true → (is_covered g xs ≡ true → Contains xs g) → Contains (x ∷ xs) g
covered_there g x xs true e h later = (0, omega arith, same_number x g e)
covered_there g x xs false e h later = let rest = later h in (suc rest.0, omega (arith, rest.1), rest.2)

covered_contains : (g : ℕ) (xs : List ℕ) → is_covered g xs ≡ true → Contains xs g
covered_contains g [] h = cc
covered_contains g (x ∷ xs) h = covered_there g x xs (x == g) refl h (covered_contains g xs)

contains_covered : (g : ℕ) (xs : List ℕ) → Contains xs g → is_covered g xs ≡ true
contains_covered g [] h = absurd (omega (arith, h.1))
contains_covered g (x ∷ xs) (zero, low, is) = or_left _ _ (itself x g is)
contains_covered g (x ∷ xs) (suc i, low, is) = or_right _ _ (contains_covered g xs (i, omega (arith, low), is))

pub covered_after_sort : (g : ℕ) (xs ys : List ℕ) → IsPermutation xs ys → is_covered g ys ≡ is_covered g xs
covered_after_sort g xs ys p =
    alike _ _ (λ h. contains_covered g xs (Contains-permutation ys xs g (IsPermutation-sym xs ys p) (covered_contains g ys h)))
    (λ h. contains_covered g ys (Contains-permutation xs ys g p (covered_contains g xs h)))

equal_is : (a b : ℕ) → nat_cmp a b ≡ Equal → a ≡ b
equal_is a b h = grind (arith, nat_tests)

less_not : (a b : ℕ) → a ≡ b → nat_cmp a b ≡ Less → ⊥
less_not a b e h = grind (arith, nat_tests)

greater_not : (a b : ℕ) → a ≡ b → nat_cmp a b ≡ Greater → ⊥
greater_not a b e h = grind (arith, nat_tests)

-- the search ends at an index exactly if the set has the glyph
pub search_covers : (g : ℕ) (xs : List ℕ) (r : Result ℕ ℕ) → IsSorted nat_cmp xs → IsSearchInRange r (length xs) → IsBinarySearchResult (λ y. nat_cmp y g) xs r → is_ok r ≡ is_covered g xs
search_covers g xs (Ok i) sorted range equal = sym (contains_covered g xs (i, range, equal_is _ g (equal g)))
search_covers g xs (Err i) sorted range parted = alike false (is_covered g xs) (λ e. cc) (λ h. absurd (none (covered_contains g xs h)))
  where
    none : Contains xs g → ⊥
    none has =
        let parts = parted (searchable_from_sorted nat_cmp_total (λ x. x) xs g sorted) in
        elim (cases_lt has.0 i) [
          | inl lt ↦ less_not _ g has.2 (parts.0 has.0 g (omega arith) lt)
          | inr ge ↦ greater_not _ g has.2 (parts.1 has.0 g ge has.1)
        ]
