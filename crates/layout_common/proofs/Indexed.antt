-- The index of a lookup's subtables.
use mathlib.Core.Bool.{false≢true}
use Rattle.std.specs.Int.{bit_at, trailing_zeros}
use Rattle.std.proofs.Common.{ℕ, zero, suc, ◌≡◌, ◌≢◌, ◌<◌, ◌≤◌, ◌+◌, ◌-◌, ◌*◌, ◌/◌, ◌%◌, ◌^◌, ◌==◌, ◌||◌, Bool, true, false, List, [], ◌∷◌, ◌++◌, length, Some, slice_get, inl, inr, min, refl, sym, ap, subst, ◌∙◌, arith, w64}
use Rattle.std.proofs.Math.Nat.{div-div-eq-div-mul, div-le_self}
use Rattle.std.proofs.lemmas.Bool.{cases_eq, cases_lt}
use Rattle.std.proofs.lemmas.Nat.{pow-add}
use Rattle.std.proofs.lemmas.Nat.Bits.{bit_at-trailing_zeros, bit_at-zero}
use Rattle.layout_common.specs.Buckets.{has_bucket}
use Rattle.layout_common.specs.Subtables.{AreIndexed, HasBits}
use Rattle.buffer_facts.proofs.Truth.{or_first, or_second}
use Rattle.buffer_facts.proofs.Numbers.{test_of_same as same_as}

-- ---- the bits of a word

-- the bits of a number that was moved down
moved_bit : (w from i : ℕ) → bit_at (w / 2 ^ from) i ≡ bit_at w (from + i)
moved_bit w from i = ap (λ n. n % 2) (div-div-eq-div-mul w (2 ^ from) (2 ^ i) ∙ ap (λ n. w / n) (sym (pow-add 2 from i)))

no_bit_before : (n i : ℕ) → n < 2 ^ 64 → i < trailing_zeros w64 n → bit_at n i ≡ 0
no_bit_before n i small lt = elim (cases_eq n 0) [
  | inl none ↦ ap (λ m. bit_at m i) none ∙ bit_at-zero i
  | inr some ↦ (bit_at-trailing_zeros w64 n (omega (arith, some)) small).2 i lt
]

-- no bit is set from one on, up to the next
pub none_between : (w from b next : ℕ) → w < 2 ^ 64 → next ≡ min (from + trailing_zeros w64 (w / 2 ^ from)) 64 → from ≤ b → b < next → has_bucket w b ≡ false
none_between w from b next small is low high =
    let t = trailing_zeros w64 (w / 2 ^ from) in
    let up : b < from + t = omega (arith, is, high) in
    let at : b ≡ from + (b - from) = omega (arith, low) in
    let less = div-le_self w (2 ^ from) in
    let none = no_bit_before (w / 2 ^ from) (b - from) (omega (arith, less, small)) (omega (arith, up, low)) in
    ap (λ n. n == 1) (ap (bit_at w) at ∙ sym (moved_bit w from (b - from)) ∙ none)

-- ---- a word is made

-- the bits so far of a word
abbrev pub HasBitsBelow : {S : Type 0} → (S → ℕ → Bool) → List S → ℕ → ℕ → ℕ → ℕ → Type 0
HasBitsBelow {S} covers subtables row bucket below word =
    (k g : ℕ) (s : S) → slice_get subtables k ≡ Some s → covers s g ≡ true → k / 64 ≡ row → g % 1024 ≡ bucket → k % 64 < below → has_bucket word (k % 64) ≡ true

pub bit_added : {S : Type 0} (covers : S → ℕ → Bool) (subtables : List S) (row bucket bit old new : ℕ) → HasBitsBelow covers subtables row bucket bit old → ((b : ℕ) → has_bucket new b ≡ (has_bucket old b || b == bit)) → HasBitsBelow covers subtables row bucket (bit + 1) new
bit_added covers subtables row bucket bit old new before adds k g s at acts e f lt = elim (cases_eq (k % 64) bit) [
  | inl same ↦ adds (k % 64) ∙ or_second (has_bucket old (k % 64)) (k % 64 == bit) (same_as (k % 64) bit same)
  | inr other ↦ adds (k % 64) ∙ or_first (has_bucket old (k % 64)) (k % 64 == bit) (before k g s at acts e f (omega (arith, lt, other)))
]

-- ---- a word more

pushed : (P : ℕ → ℕ → Type 0) (ws : List ℕ) (w : ℕ) → ((i v : ℕ) → slice_get ws i ≡ Some v → P i v) → P (length ws) w → (i v : ℕ) → slice_get (ws ++ w ∷ []) i ≡ Some v → P i v
pushed P [] w old new zero v e = let same : w ≡ v = cc in subst (P 0) same new
pushed P [] w old new (suc i) v e = cc
pushed P (x ∷ ws) w old new zero v e = old zero v e
pushed P (x ∷ ws) w old new (suc i) v e = pushed (λ j. P (suc j)) ws w (λ j u f. old (suc j) u f) new i v e

-- ---- the index is asked

pub not_at : {S : Type 0} (covers : S → ℕ → Bool) (subtables : List S) (words : List ℕ) (row bucket word k g : ℕ) (s : S) → AreIndexed covers subtables words → slice_get words (row * 1024 + bucket) ≡ Some word → bucket ≡ g % 1024 → k / 64 ≡ row
    → has_bucket word (k % 64) ≡ false → slice_get subtables k ≡ Some s → covers s g ≡ false
not_at covers subtables words row bucket word k g s indexed there b r none at = by_covered (covers s g) refl
  where
    by_covered : (t : Bool) → covers s g ≡ t → covers s g ≡ false
    by_covered false e = e
    by_covered true e =
        let set = indexed (row * 1024 + bucket) word there k g s at e (omega (arith, r, b)) (omega (arith, b)) in
        absurd (false≢true (sym none ∙ set))

-- the subtables from one on that can't act at a glyph
abbrev pub AreSkipped : {S : Type 0} → (S → ℕ → Bool) → List S → ℕ → ℕ → ℕ → Type 0
AreSkipped {S} covers subtables g from next = (k : ℕ) (s : S) → from ≤ k → k < next → slice_get subtables k ≡ Some s → covers s g ≡ false

pub skipped_more : {S : Type 0} (covers : S → ℕ → Bool) (subtables : List S) (words : List ℕ) (bucket word from at bit next g : ℕ) → AreIndexed covers subtables words → slice_get words (at / 64 * 1024 + bucket) ≡ Some word → bucket ≡ g % 1024
    → ((b : ℕ) → at % 64 ≤ b → b < bit → has_bucket word b ≡ false) → bit ≤ 64 → next ≤ at / 64 * 64 + bit → AreSkipped covers subtables g from at → AreSkipped covers subtables g from next
skipped_more covers subtables words bucket word from at bit next g indexed there b none le up before k s low high is = elim (cases_lt k at) [
  | inl lt ↦ before k s low lt is
  | inr ge ↦
      let row : k / 64 ≡ at / 64 = omega (arith, ge, high, up, le) in
      let first : at % 64 ≤ k % 64 = omega (arith, row, ge) in
      let last : k % 64 < bit = omega (arith, row, high, up) in
      not_at covers subtables words (at / 64) bucket word k g s indexed there b row (none (k % 64) first last) is
]

-- the same, from what a view has
pub next_skipped : {S : Type 0} (covers : S → ℕ → Bool) (inside now : List S) (words asked : List ℕ) (bucket word from at bit next g : ℕ) → inside ≡ now → AreIndexed covers inside words → asked ≡ words → slice_get asked (at / 64 * 1024 + bucket) ≡ Some word → bucket ≡ g % 1024
    → ((b : ℕ) → at % 64 ≤ b → b < bit → has_bucket word b ≡ false) → bit ≤ 64 → next ≤ at / 64 * 64 + bit → AreSkipped covers now g from at → AreSkipped covers now g from next
next_skipped {S} covers inside now words asked bucket word from at bit next g view indexed same there b none le up before =
    let P : List S → Type 0 = λ xs. AreIndexed covers xs words in
    skipped_more covers now words bucket word from at bit next g (subst P view indexed) (ap (λ ws. slice_get ws (at / 64 * 1024 + bucket)) (sym same) ∙ there) b none le up before
