-- Sorted glyphs are the listed ones in the order of their numbers.
use Rattle.std.proofs.Common.{◌≡◌, ℕ, zero, suc, Bool, true, false, if◌then◌else◌, List, [], ◌∷◌, length, refl, sym, ap, ◌∙◌, arith}
use Rattle.std.specs.List.{filter}
use Rattle.std.specs.List.Sorted.{IsSorted, IsPermutation, IsStableByKey, ties}
use Rattle.std.specs.Ordering.{nat_cmp, is_lt}
use Rattle.std.proofs.lemmas.Bool.Decides.{nat_tests}
use Rattle.std.proofs.lemmas.List.Sorted.{sum_by-IsPermutation, IsNonDecreasingBy-from_sort}
use Rattle.std.proofs.lemmas.List.Sums.{length-filter}
use Rattle.buffer_rows.proofs.StableSort.{stable_sort_is}
use Rattle.layout_common.specs.Coverage.{in_order}

abbrev copies : ℕ → ℕ → List ℕ
copies zero g = []
copies (suc n) g = g ∷ copies n g

-- the glyphs that tie with g
abbrev ties_with : ℕ → ℕ → Bool
ties_with g x = ties (λ a b. is_lt (nat_cmp a b)) g x

tied : (g x : ℕ) → ties_with g x ≡ true → x ≡ g
tied g x h = grind (arith, nat_tests)

kept : (g x : ℕ) (xs : List ℕ) (b : Bool) → ties_with g x ≡ b → filter (ties_with g) xs ≡ copies (length (filter (ties_with g) xs)) g
    → (if b then x ∷ filter (ties_with g) xs else filter (ties_with g) xs) ≡ copies (length (if b then x ∷ filter (ties_with g) xs else filter (ties_with g) xs)) g
kept g x xs true t rest = ap (λ y. y ∷ filter (ties_with g) xs) (tied g x t) ∙ ap (λ ys. g ∷ ys) rest
kept g x xs false t rest = rest

kept_are_copies : (g : ℕ) (xs : List ℕ) → filter (ties_with g) xs ≡ copies (length (filter (ties_with g) xs)) g
kept_are_copies g [] = refl
kept_are_copies g (x ∷ xs) = kept g x xs (ties_with g x) refl (kept_are_copies g xs)

as_many : (g : ℕ) (xs ys : List ℕ) → IsPermutation xs ys → length (filter (ties_with g) ys) ≡ length (filter (ties_with g) xs)
as_many g xs ys moved = length-filter (ties_with g) ys ∙ sum_by-IsPermutation (λ x. if ties_with g x then 1 else 0) xs ys moved ∙ sym (length-filter (ties_with g) xs)

stays_stable : (xs ys : List ℕ) → IsPermutation xs ys → IsStableByKey (λ g. g) nat_cmp xs ys
stays_stable xs ys moved = λ g. kept_are_copies g ys ∙ ap (λ n. copies n g) (as_many g xs ys moved) ∙ sym (kept_are_copies g xs)

pub sorted_is_in_order : (xs ys : List ℕ) → IsSorted nat_cmp ys → IsPermutation xs ys → ys ≡ in_order xs
sorted_is_in_order xs ys sorted moved = stable_sort_is (λ g. g) (λ g. g) (λ g. refl) xs ys (IsNonDecreasingBy-from_sort (λ g. g) ys sorted) (stays_stable xs ys moved) moved
