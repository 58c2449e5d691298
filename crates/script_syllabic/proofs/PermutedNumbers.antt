-- Numbers that are permuted.
use Rattle.std.proofs.Common.{ℕ, ◌≡◌, ◌<◌, ◌+◌, ◌==◌, ◌&&◌, ◌||◌, Bool, true, false, if◌then◌else◌, List, [], ◌∷◌, refl, sym, subst, ◌∙◌, arith}
use Rattle.std.specs.Prelude.{nat_le}
use Rattle.std.specs.List.{list_any, sum_by}
use Rattle.std.specs.List.Sorted.{IsPermutation}
use Rattle.std.proofs.lemmas.List.Sums.{sum_by-cons}
use Rattle.std.proofs.lemmas.List.Sorted.{sum_by-IsPermutation}
use Rattle.buffer_glyphs.specs.Items.{Item}
use Rattle.buffer_stages.specs.Buffers.{are_glyphs}
use Rattle.buffer_stages.specs.Pauses.{BringsNoGlyph}
use Rattle.buffer_stages.specs.SyllableLaws.{numbers_of}

abbrev one_if : Bool → ℕ
one_if t = if t then 1 else 0

abbrev none_if : Bool → ℕ
none_if t = if t then 0 else 1

-- how often a number occurs, and how many are no glyphs
abbrev times : ℕ → List ℕ → ℕ
times n ns = sum_by (λ m. one_if (m == n)) ns

abbrev strangers : List ℕ → ℕ
strangers ns = sum_by (λ m. none_if (nat_le m 65535)) ns

one_more : (n m : ℕ) (ns : List ℕ) → times n (m ∷ ns) ≡ one_if (m == n) + times n ns
one_more n m ns = sum_by-cons (λ k. one_if (k == n)) m ns

one_stranger : (m : ℕ) (ns : List ℕ) → strangers (m ∷ ns) ≡ none_if (nat_le m 65535) + strangers ns
one_stranger m ns = sum_by-cons (λ k. none_if (nat_le k 65535)) m ns

abbrev has_number : ℕ → List Item → Bool
has_number n xs = list_any (λ (x : Item). x.number == n) xs

stands : (n : ℕ) (xs : List Item) → has_number n xs ≡ true → 0 < times n (numbers_of xs)
stands n [] e = cc
stands n (x ∷ xs) e = subst (λ k. 0 < k) (sym (one_more n x.number (numbers_of xs))) (by_test (x.number == n) (stands n xs) e)
  where
    by_test : (t : Bool) → (has_number n xs ≡ true → 0 < times n (numbers_of xs)) → (t || has_number n xs) ≡ true → 0 < one_if t + times n (numbers_of xs)
    by_test true later h = omega arith
    by_test false later h = (let more = later h in omega (arith, more))

is_there : (n : ℕ) (xs : List Item) → 0 < times n (numbers_of xs) → has_number n xs ≡ true
is_there n [] lt = absurd (omega (arith, lt))
is_there n (x ∷ xs) lt = by_test (x.number == n) (is_there n xs) (subst (λ k. 0 < k) (one_more n x.number (numbers_of xs)) lt)
  where
    by_test : (t : Bool) → (0 < times n (numbers_of xs) → has_number n xs ≡ true) → 0 < one_if t + times n (numbers_of xs) → (t || has_number n xs) ≡ true
    by_test true later h = refl
    by_test false later h = later (omega (arith, h))

no_strangers : (xs : List Item) → are_glyphs xs ≡ true → strangers (numbers_of xs) ≡ 0
no_strangers [] e = refl
no_strangers (x ∷ xs) e = one_stranger x.number (numbers_of xs) ∙ by_test (nat_le x.number 65535) (no_strangers xs) e
  where
    by_test : (t : Bool) → (are_glyphs xs ≡ true → strangers (numbers_of xs) ≡ 0) → (t && are_glyphs xs) ≡ true → none_if t + strangers (numbers_of xs) ≡ 0
    by_test true later h = (let rest = later h in omega (arith, rest))
    by_test false later h = cc

all_known : (xs : List Item) → strangers (numbers_of xs) ≡ 0 → are_glyphs xs ≡ true
all_known [] e = refl
all_known (x ∷ xs) e = by_test (nat_le x.number 65535) (all_known xs) (sym (one_stranger x.number (numbers_of xs)) ∙ e)
  where
    by_test : (t : Bool) → (strangers (numbers_of xs) ≡ 0 → are_glyphs xs ≡ true) → none_if t + strangers (numbers_of xs) ≡ 0 → (t && are_glyphs xs) ≡ true
    by_test true later h = later (omega (arith, h))
    by_test false later h = absurd (omega (arith, h))

pub permuted_brings_none : (xs ys : List Item) → IsPermutation (numbers_of xs) (numbers_of ys) → BringsNoGlyph xs ys
permuted_brings_none xs ys p n e =
    let same = sum_by-IsPermutation (λ m. one_if (m == n)) (numbers_of xs) (numbers_of ys) p in
    let some = stands n ys e in
    is_there n xs (omega (arith, same, some))

pub permuted_glyphs : (xs ys : List Item) → IsPermutation (numbers_of xs) (numbers_of ys) → are_glyphs xs ≡ true → are_glyphs ys ≡ true
permuted_glyphs xs ys p e =
    let same = sum_by-IsPermutation (λ m. none_if (nat_le m 65535)) (numbers_of xs) (numbers_of ys) p in
    let none = no_strangers xs e in
    all_known ys (omega (arith, same, none))
