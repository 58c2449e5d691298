-- Orders that permute.
use Rattle.std.proofs.Common.{ℕ, zero, suc, ◌≡◌, ◌≤◌, ◌<◌, ◌+◌, ◌==◌, List, ◌∷◌, ◌++◌, length, reverse, arith, ap, sym, subst, ◌∙◌}
use Rattle.std.specs.List.{range_with_len}
use Rattle.std.specs.List.Sorted.{IsPermutation}
use Rattle.std.proofs.lemmas.List.{length-append, length-reverse}
use Rattle.std.proofs.lemmas.List.FromFn.{length-range_with_len}
use Rattle.std.proofs.lemmas.List.Sorted.{IsPermutation-reverse, IsPermutation-append_comm, list_any-IsPermutation}
use Rattle.buffer_glyphs.specs.Lemmas.Numbers.{Has, has_here, has_more}
use Rattle.buffer_parts.specs.Breaks.Lossless.{IsPermuting}
use Rattle.buffer_parts.specs.Breaks.OrderLaws.{PermutationsPermute, ReversalsPermute, MovesPermute}

range_has : (first n i d : ℕ) → first + d ≡ i → d < n → Has (range_with_len first n) i
range_has first zero i d e lt = absurd (omega (arith, lt))
range_has first (suc n) i zero e lt = let same : first ≡ i = omega (arith, e) in subst (λ k. Has (first ∷ range_with_len (first + 1) n) k) same (has_here first (range_with_len (first + 1) n))
range_has first (suc n) i (suc d) e lt = has_more first i (range_with_len (first + 1) n) (range_has (first + 1) n i d (omega (arith, e)) (omega (arith, lt)))

pub permutations_permute : PermutationsPermute
permutations_permute from order n fits p = record {
  within = fits;
  each = λ i lt. sym (list_any-IsPermutation (λ m. m == i) (range_with_len 0 (length order)) order p) ∙ range_has 0 (length order) i i (omega arith) lt;
}

-- the permutation of k indices
pub of_count : (from k n : ℕ) (order : List ℕ) → length order ≡ k → from + k ≤ n → IsPermutation (range_with_len 0 k) order → IsPermuting from order n
of_count from k n order count fits p = permutations_permute from order n (omega (arith, count, fits)) (subst (λ (m : ℕ). IsPermutation (range_with_len 0 m) order) (sym count) p)

pub reversals_permute : ReversalsPermute
reversals_permute from k n fits =
    let indices = range_with_len 0 k in
    of_count from k n (reverse indices) (length-reverse indices ∙ length-range_with_len 0 k) fits (IsPermutation-reverse indices)

-- two ranges of indices, one after the other
ranges_join : (first j k : ℕ) → range_with_len first j ++ range_with_len (first + j) k ≡ range_with_len first (j + k)
ranges_join first zero k =
    let none : first + 0 ≡ first = omega arith in
    let all : k ≡ 0 + k = omega arith in
    ap (λ (n : ℕ). range_with_len n k) none ∙ ap (λ (n : ℕ). range_with_len first n) all
ranges_join first (suc j) k =
    let next : first + suc j ≡ first + 1 + j = omega arith in
    let more : suc j + k ≡ suc (j + k) = omega arith in
    ap (λ (n : ℕ). first ∷ (range_with_len (first + 1) j ++ range_with_len n k)) next ∙ ap (λ (xs : List ℕ). first ∷ xs) (ranges_join (first + 1) j k) ∙ ap (λ (n : ℕ). range_with_len first n) (sym more)

pub moves_permute : MovesPermute
moves_permute from j k n fits =
    let front = range_with_len 0 j in
    let back = range_with_len j k in
    let count : length (back ++ front) ≡ j + k = length-append back front ∙ sizes j k in
    of_count from (j + k) n (back ++ front) count fits (subst (λ (xs : List ℕ). IsPermutation xs (back ++ front)) (ranges_join 0 j k) (subst (λ (m : ℕ). IsPermutation (front ++ range_with_len m k) (back ++ front)) (none_more j) (IsPermutation-append_comm front back)))
  where
    none_more : (m : ℕ) → m ≡ 0 + m
    none_more m = omega arith

    sizes : (m l : ℕ) → length (range_with_len m l) + length (range_with_len 0 m) ≡ m + l
    sizes m l = let one = length-range_with_len m l in let two = length-range_with_len 0 m in omega (arith, one, two)
