-- Lists of three parts, and the range of the middle one.
use Rattle.std.proofs.Common.{ℕ, zero, suc, ◌≡◌, ◌≤◌, ◌<◌, ◌+◌, ◌-◌, ◌↔◌, ◌⊎◌, List, [], ◌∷◌, ◌++◌, length, take, drop, Some, slice_get, arith, inl, inr, refl, sym, ap, subst, ◌∙◌}
use Rattle.std.specs.Prelude.{slice_range}
use Rattle.std.proofs.lemmas.Bool.{cases_lt}
use Rattle.std.proofs.lemmas.List.{length-append, drop_at, take_at}
use Rattle.kuspveli.specs.buffer_glyphs.Lemmas.Numbers.{Has, has_here, has_more}
use Rattle.kuspveli.specs.buffer_parts.Slices.{IsIn}
use Rattle.buffer_facts.proofs.Lists.{empty_by_length as empty_is}

-- ---- the range of the middle

pub middle_range : {X : Type 0} (xs ys zs : List X) (i j : ℕ) → length xs ≡ i → j ≡ length xs + length ys → slice_range (xs ++ (ys ++ zs)) i j ≡ ys
middle_range xs ys zs i j from to =
    ap (take (j - i)) (drop_at xs (ys ++ zs) i from) ∙ take_at ys zs (j - i) (omega (arith, from, to))

none_range : {X : Type 0} (xs : List X) (i j : ℕ) → i ≡ j → slice_range xs i j ≡ []
none_range xs i j same = let none : j - i ≡ 0 = omega (arith, same) in ap (λ n. take n (drop i xs)) none

-- ---- where the numbers of three parts are

-- a number of three lists, one after another, by its index
data IsPlaced (xs ys zs : List ℕ) (k n : ℕ) : Type 0 where
  First : k < length xs → Has xs n → IsPlaced xs ys zs k n
  Second : length xs ≤ k → k < length xs + length ys → Has ys n → IsPlaced xs ys zs k n
  Third : length xs + length ys ≤ k → Has zs n → IsPlaced xs ys zs k n

got_has : (xs : List ℕ) (k n : ℕ) → slice_get xs k ≡ Some n → Has xs n
got_has [] k n at = cc
got_has (x ∷ xs) zero n at = let same : x ≡ n = cc in subst (λ m. Has (x ∷ xs) m) same (has_here x xs)
got_has (x ∷ xs) (suc k) n at = has_more x n xs (got_has xs k n at)

later : (x : ℕ) (xs ys zs : List ℕ) (k n : ℕ) → IsPlaced xs ys zs k n → IsPlaced (x ∷ xs) ys zs (suc k) n
later x xs ys zs k n (First less has) = First (omega (arith, less)) (has_more x n xs has)
later x xs ys zs k n (Second from less has) = Second (omega (arith, from)) (omega (arith, less)) has
later x xs ys zs k n (Third from has) = Third (omega (arith, from)) has

after : (y : ℕ) (ys zs : List ℕ) (k n : ℕ) → IsPlaced [] ys zs k n → IsPlaced [] (y ∷ ys) zs (suc k) n
after y ys zs k n (First less has) = absurd (omega (arith, less))
after y ys zs k n (Second from less has) = Second (omega arith) (omega (arith, less)) (has_more y n ys has)
after y ys zs k n (Third from has) = Third (omega (arith, from)) has

placed : (xs ys zs : List ℕ) (k n : ℕ) → slice_get (xs ++ (ys ++ zs)) k ≡ Some n → IsPlaced xs ys zs k n
placed [] [] zs k n at = Third (omega arith) (got_has zs k n at)
placed [] (y ∷ ys) zs zero n at = let same : y ≡ n = cc in Second (omega arith) (omega arith) (subst (λ m. Has (y ∷ ys) m) same (has_here y ys))
placed [] (y ∷ ys) zs (suc k) n at = after y ys zs k n (placed [] ys zs k n at)
placed (x ∷ xs) ys zs zero n at = let same : x ≡ n = cc in First (omega arith) (subst (λ m. Has (x ∷ xs) m) same (has_here x xs))
placed (x ∷ xs) ys zs (suc k) n at = later x xs ys zs k n (placed xs ys zs k n at)

number_at : (xs : List ℕ) (k : ℕ) → k < length xs → (n : ℕ) × (slice_get xs k ≡ Some n)
number_at [] k within = absurd (omega (arith, within))
number_at (x ∷ xs) zero within = (x, refl)
number_at (x ∷ xs) (suc k) within = number_at xs k (omega (arith, within))

-- ---- a range that has exactly the numbers of the middle

module _ (xs ys zs : List ℕ) (bytes : ℕ × ℕ) (outside : (n : ℕ) → Has xs n → ¬ (IsIn bytes n)) (inside : (n : ℕ) → Has ys n → IsIn bytes n) (beyond : (n : ℕ) → Has zs n → ¬ (IsIn bytes n)) where
  abbrev ns : List ℕ
  ns = xs ++ (ys ++ zs)

  all : length ns ≡ length xs + (length ys + length zs)
  all = length-append xs (ys ++ zs) ∙ ap (λ n. length xs + n) (length-append ys zs)

  -- a number inside is one of the middle, and the other way round
  is_middle : (k n : ℕ) → slice_get ns k ≡ Some n → IsIn bytes n → IsIn (length xs, length xs + length ys) k
  is_middle k n at is = by_place (placed xs ys zs k n at)
    where
      by_place : IsPlaced xs ys zs k n → IsIn (length xs, length xs + length ys) k
      by_place (First less has) = absurd (outside n has is)
      by_place (Second from less has) = (from, less)
      by_place (Third from has) = absurd (beyond n has is)

  is_inside : (k n : ℕ) → slice_get ns k ≡ Some n → IsIn (length xs, length xs + length ys) k → IsIn bytes n
  is_inside k n at is = by_place (placed xs ys zs k n at)
    where
      by_place : IsPlaced xs ys zs k n → IsIn bytes n
      by_place (First less has) = let low = is.0 in absurd (omega (arith, less, low))
      by_place (Second from less has) = inside n has
      by_place (Third from has) = let high = is.1 in absurd (omega (arith, from, high))

  module _ (start end : ℕ) (ordered : start ≤ end) (within : end ≤ length ns) (exact : (k n : ℕ) → slice_get ns k ≡ Some n → IsIn (start, end) k ↔ IsIn bytes n) where
    to_middle : (k : ℕ) → start ≤ k → k < end → IsIn (length xs, length xs + length ys) k
    to_middle k low high =
        let one = number_at ns k (omega (arith, high, within)) in
        is_middle k one.0 one.1 ((exact k one.0 one.1).0 (low, high))

    from_middle : (k : ℕ) → length xs ≤ k → k < length xs + length ys → IsIn (start, end) k
    from_middle k low high =
        let many = all in
        let one = number_at ns k (omega (arith, high, many)) in
        (exact k one.0 one.1).1 (is_inside k one.0 one.1 (low, high))

    -- the range is that of the middle, or both are empty
    pub range_is_middle : ((start ≡ length xs) × (end ≡ length xs + length ys)) ⊎ ((start ≡ end) × (length ys ≡ 0))
    range_is_middle = elim (cases_lt start end) [
      | inl some ↦ inl (filled some)
      | inr none ↦ elim (cases_lt 0 (length ys)) [
        | inl more ↦ let is = from_middle (length xs) (omega arith) (omega (arith, more)) in let low = is.0 in let high = is.1 in absurd (omega (arith, none, low, high))
        | inr empty ↦ inr (omega (arith, none, ordered), omega (arith, empty))
      ]
    ]
      where
        filled : start < end → (start ≡ length xs) × (end ≡ length xs + length ys)
        filled some =
            let first = to_middle start (omega arith) some in
            let last = to_middle (end - 1) (omega (arith, some)) (omega (arith, some)) in
            let low = first.0 in
            let high = last.1 in
            let some_there = first.1 in
            let begin = from_middle (length xs) (omega arith) (omega (arith, low, some_there)) in
            let stop = from_middle (length xs + length ys - 1) (omega (arith, low, some_there)) (omega (arith, low, some_there)) in
            let down = begin.0 in
            let up = stop.1 in
            (omega (arith, low, down), omega (arith, high, up, some, low, some_there))

-- the range of elements that belong to the middle, where they are counted as the numbers are
pub range_of_middle : {X : Type 0} (ps qs rs : List X) (xs ys : List ℕ) (start end : ℕ) → length ps ≡ length xs → length qs ≡ length ys
    → ((start ≡ length xs) × (end ≡ length xs + length ys)) ⊎ ((start ≡ end) × (length ys ≡ 0)) → slice_range (ps ++ (qs ++ rs)) start end ≡ qs
range_of_middle ps qs rs xs ys start end first second (inl (from, to)) = middle_range ps qs rs start end (first ∙ sym from) (omega (arith, to, first, second))
range_of_middle ps qs rs xs ys start end first second (inr (same, none)) = none_range (ps ++ (qs ++ rs)) start end same ∙ sym (empty_is qs (second ∙ none))
