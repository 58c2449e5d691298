-- The first and the last index from which on a list passes a test: one index more, and where they lie.
use Rattle.std.proofs.Common.{ℕ, zero, suc, ◌≡◌, ◌≤◌, ◌<◌, ◌+◌, ◌-◌, Bool, true, false, if◌then◌else◌, List, [], ◌∷◌, length, drop, Option, Some, None, refl, sym, ap, subst, ◌∙◌, arith}
use Rattle.std.specs.Option.{option_or}
use Rattle.std.proofs.lemmas.List.{drop_all}
use Rattle.script_indic_reordering.specs.Indices.{first_at, last_at}

-- ---- past the end

pub first_past : {X : Type 0} (test : List X → Bool) (i : ℕ) (xs : List X) → length xs ≤ i → first_at test i (drop i xs) ≡ None
first_past test i xs le = ap (first_at test i) (drop_all i xs le)

pub last_past : {X : Type 0} (test : List X → Bool) (i : ℕ) (xs : List X) → length xs ≤ i → last_at test i (drop i xs) ≡ None
last_past test i xs le = ap (last_at test i) (drop_all i xs le)

-- ---- the first

skipped : {X : Type 0} (test : List X → Bool) (j i : ℕ) (xs : List X) → i < length xs → test (drop i xs) ≡ false → first_at test j (drop i xs) ≡ first_at test (j + 1) (drop (suc i) xs)
skipped test j i [] lt e = absurd (omega (arith, lt))
skipped test j zero (x ∷ xs) lt e = ap (λ t. if t then Some j else first_at test (j + 1) xs) e
skipped test j (suc i) (x ∷ xs) lt e = skipped test j i xs (omega (arith, lt)) e

pub first_skip : {X : Type 0} (test : List X → Bool) (i : ℕ) (xs : List X) (o : Option ℕ) → i < length xs → test (drop i xs) ≡ false → first_at test i (drop i xs) ≡ o → first_at test (i + 1) (drop (i + 1) xs) ≡ o
first_skip test i xs o lt e f = ap (λ n. first_at test (i + 1) (drop n xs)) (let one : i + 1 ≡ suc i = omega arith in one) ∙ sym (skipped test i i xs lt e) ∙ f

hit : {X : Type 0} (test : List X → Bool) (j i : ℕ) (xs : List X) → i < length xs → test (drop i xs) ≡ true → first_at test j (drop i xs) ≡ Some j
hit test j i [] lt e = absurd (omega (arith, lt))
hit test j zero (x ∷ xs) lt e = ap (λ t. if t then Some j else first_at test (j + 1) xs) e
hit test j (suc i) (x ∷ xs) lt e = hit test j i xs (omega (arith, lt)) e

pub first_hit : {X : Type 0} (test : List X → Bool) (i : ℕ) (xs : List X) (o : Option ℕ) → i < length xs → test (drop i xs) ≡ true → first_at test i (drop i xs) ≡ o → Some i ≡ o
first_hit test i xs o lt e f = sym (hit test i i xs lt e) ∙ f

pub first_none : {X : Type 0} (test : List X → Bool) (i : ℕ) (xs : List X) (o : Option ℕ) → length xs ≤ i → first_at test i (drop i xs) ≡ o → None ≡ o
first_none test i xs o le f = sym (first_past test i xs le) ∙ f

-- ---- the last

passed_over : {X : Type 0} (test : List X → Bool) (j i : ℕ) (xs : List X) → i < length xs → test (drop i xs) ≡ false → last_at test (j + 1) (drop (suc i) xs) ≡ None → last_at test j (drop i xs) ≡ None
passed_over test j i [] lt e f = absurd (omega (arith, lt))
passed_over test j zero (x ∷ xs) lt e f = ap (λ o. option_or o (if test (x ∷ xs) then Some j else None)) f ∙ ap (λ t. if t then Some j else None) e
passed_over test j (suc i) (x ∷ xs) lt e f = passed_over test j i xs (omega (arith, lt)) e f

pub last_next : {X : Type 0} (test : List X → Bool) (i : ℕ) (xs : List X) → i < length xs → test (drop i xs) ≡ false → last_at test (i + 1) (drop (i + 1) xs) ≡ None → last_at test i (drop i xs) ≡ None
last_next test i xs lt e f = passed_over test i i xs lt e (ap (λ n. last_at test (i + 1) (drop n xs)) (let one : suc i ≡ i + 1 = omega arith in one) ∙ f)

stopped : {X : Type 0} (test : List X → Bool) (j i : ℕ) (xs : List X) → i < length xs → test (drop i xs) ≡ true → last_at test (j + 1) (drop (suc i) xs) ≡ None → last_at test j (drop i xs) ≡ Some j
stopped test j i [] lt e f = absurd (omega (arith, lt))
stopped test j zero (x ∷ xs) lt e f = ap (λ o. option_or o (if test (x ∷ xs) then Some j else None)) f ∙ ap (λ t. if t then Some j else None) e
stopped test j (suc i) (x ∷ xs) lt e f = stopped test j i xs (omega (arith, lt)) e f

earlier : {X : Type 0} (test : List X → Bool) (j i k : ℕ) (xs : List X) → last_at test (j + 1) (drop (suc i) xs) ≡ Some k → last_at test j (drop i xs) ≡ Some k
earlier test j zero k [] e = cc
earlier test j (suc i) k [] e = cc
earlier test j zero k (x ∷ xs) e = ap (λ o. option_or o (if test (x ∷ xs) then Some j else None)) e
earlier test j (suc i) k (x ∷ xs) e = earlier test j i k xs e

from_earlier : {X : Type 0} (test : List X → Bool) (n i k : ℕ) (xs : List X) → last_at test (i + n) (drop (i + n) xs) ≡ Some k → last_at test i (drop i xs) ≡ Some k
from_earlier test zero i k xs e = ap (λ m. last_at test m (drop m xs)) (let same : i ≡ i + 0 = omega arith in same) ∙ e
from_earlier test (suc n) i k xs e =
    let step : i + suc n ≡ (i + 1) + n = omega arith in
    let next : last_at test (i + 1) (drop (i + 1) xs) ≡ Some k = from_earlier test n (i + 1) k xs (ap (λ m. last_at test m (drop m xs)) (sym step) ∙ e) in
    earlier test i i k xs (ap (λ m. last_at test (i + 1) (drop m xs)) (let one : suc i ≡ i + 1 = omega arith in one) ∙ next)

pub last_found : {X : Type 0} (test : List X → Bool) (from i : ℕ) (xs : List X) → from ≤ i → i < length xs → test (drop i xs) ≡ true → last_at test (i + 1) (drop (i + 1) xs) ≡ None
    → last_at test from (drop from xs) ≡ Some i
last_found test from i xs le lt e f =
    let here : last_at test i (drop i xs) ≡ Some i = stopped test i i xs lt e (ap (λ n. last_at test (i + 1) (drop n xs)) (let one : suc i ≡ i + 1 = omega arith in one) ∙ f) in
    from_earlier test (i - from) from i xs (ap (λ m. last_at test m (drop m xs)) (let at : from + (i - from) ≡ i = omega (arith, le) in at) ∙ here)

-- ---- where they lie

lies_first : {X : Type 0} (test : List X → Bool) (i k : ℕ) (x : X) (xs : List X) (t : Bool) → (first_at test (i + 1) xs ≡ Some k → (i + 1 ≤ k) × (k < i + 1 + length xs))
    → (if t then Some i else first_at test (i + 1) xs) ≡ Some k → (i ≤ k) × (k < i + length (x ∷ xs))
lies_first test i k x xs true rest e = let same : i ≡ k = cc in (omega (arith, same), omega (arith, same))
lies_first test i k x xs false rest e = let r = rest e in (omega (arith, r.0), omega (arith, r.1))

pub first_within : {X : Type 0} (test : List X → Bool) (i k : ℕ) (xs : List X) → first_at test i xs ≡ Some k → (i ≤ k) × (k < i + length xs)
first_within test i k [] e = cc
first_within test i k (x ∷ xs) e = lies_first test i k x xs (test (x ∷ xs)) (first_within test (i + 1) k xs) e

lies_here : (i k n : ℕ) (t : Bool) → (if t then Some i else None) ≡ Some k → (i ≤ k) × (k < i + suc n)
lies_here i k n true e = let same : i ≡ k = cc in (omega (arith, same), omega (arith, same))
lies_here i k n false e = cc

lies_last : {X : Type 0} (i k : ℕ) (x : X) (xs : List X) (t : Bool) (o : Option ℕ) → (o ≡ Some k → (i + 1 ≤ k) × (k < i + 1 + length xs))
    → option_or o (if t then Some i else None) ≡ Some k → (i ≤ k) × (k < i + length (x ∷ xs))
lies_last i k x xs t None rest e = lies_here i k (length xs) t e
lies_last i k x xs t (Some j) rest e = let r = rest e in (omega (arith, r.0), omega (arith, r.1))

pub last_within : {X : Type 0} (test : List X → Bool) (i k : ℕ) (xs : List X) → last_at test i xs ≡ Some k → (i ≤ k) × (k < i + length xs)
last_within test i k [] e = cc
last_within test i k (x ∷ xs) e = lies_last i k x xs (test (x ∷ xs)) (last_at test (i + 1) xs) (last_within test (i + 1) k xs) e
