-- Sets of glyphs by the low bits of their numbers.
use mathlib.Core.Bool.{false≢true}
use Rattle.std.proofs.Common.{ℕ, zero, suc, ◌≡◌, ◌==◌, ◌||◌, ◌<◌, ◌≤◌, ◌^◌, ◌%◌, ◌/◌, ◌*◌, ◌+◌, ◌-◌, Bool, true, false, List, [], ◌∷◌, ◌++◌, length, take, get_or, slice_get, replicate, set, Some, bit_and, inl, inr, refl, sym, ap, ◌∙◌, arith, add-one}
use Rattle.std.proofs.lemmas.Bool.{cases_lt}
use Rattle.std.proofs.lemmas.List.{set-get_or}
use Rattle.std.proofs.lemmas.List.Folds.{list_any-append}
use Rattle.std.proofs.lemmas.Option.{slice_get-get_or}
use Rattle.layout_common.specs.Buckets.{has_bucket, numbers_from}
use Rattle.layout_common.specs.Coverage.{is_covered}
use Rattle.layout_common.specs.LowBits.{IsLowBitsOf, has_low_bits, shares_low_bits}
use Rattle.layout_common.proofs.Bits.{all_buckets, below_64, buckets_apart, full_mask, no_common_bit, number_there, or_assoc}
use Rattle.layout_common.proofs.Words.{bit_added_to, bit_in_word, take-all}
use Rattle.buffer_facts.proofs.Numbers.{same_by_test as equal, test_of_same as same_as}
use Rattle.buffer_facts.proofs.Truth.{or_false, or_first, or_second}

-- a word that is set to what it is
pub word_stays : (ws : List ℕ) (i w d : ℕ) → get_or ws i d ≡ w → ws ≡ set ws i w
word_stays ws i w d e = sym (set-get_or ws i d) ∙ ap (λ (n : ℕ). set ws i n) e

-- words became others by the addition of glyphs
abbrev pub AddsLow : (ℕ → Bool) → List ℕ → List ℕ → Type 0
AddsLow is_new old new = (g : ℕ) → has_low_bits new g ≡ (has_low_bits old g || is_new g)

pub low_there : (is_new : ℕ → Bool) (old new : List ℕ) (g : ℕ) → AddsLow is_new old new → is_new g ≡ true → has_low_bits new g ≡ true
low_there is_new old new g adds e = adds g ∙ or_second (has_low_bits old g) (is_new g) e

-- more glyphs were added
pub more_low : (old new others glyphs : List ℕ) → AddsLow (shares_low_bits glyphs) old new → IsLowBitsOf old others → IsLowBitsOf new (others ++ glyphs)
more_low old new others glyphs adds is g =
    adds g ∙ ap (λ t. t || shares_low_bits glyphs g) (is g) ∙ sym (list_any-append (λ h. h % 1024 == g % 1024) others glyphs)

pub one_low : (old new glyphs : List ℕ) (glyph : ℕ) → AddsLow (λ g. glyph % 1024 == g % 1024) old new → IsLowBitsOf old glyphs → IsLowBitsOf new (glyphs ++ glyph ∷ [])
one_low old new glyphs glyph adds is =
    more_low old new glyphs (glyph ∷ []) (λ g. adds g ∙ ap (λ t. has_low_bits old g || t) (sym (or_false (glyph % 1024 == g % 1024)))) is

-- a glyph that is one of some has the low bits of one of them
pub covered_low : (g : ℕ) (glyphs : List ℕ) → is_covered g glyphs ≡ true → shares_low_bits glyphs g ≡ true
covered_low g [] e = absurd (false≢true e)
covered_low g (h ∷ glyphs) e = by_test (h == g) refl e (covered_low g glyphs)
  where
    by_test : (t : Bool) → (h == g) ≡ t → (t || is_covered g glyphs) ≡ true → (is_covered g glyphs ≡ true → shares_low_bits glyphs g ≡ true)
        → (h % 1024 == g % 1024 || shares_low_bits glyphs g) ≡ true
    by_test true is _ more = or_first (h % 1024 == g % 1024) (shares_low_bits glyphs g) (same_as (h % 1024) (g % 1024) (ap (λ n. n % 1024) (equal h g is)))
    by_test false is left more = or_second (h % 1024 == g % 1024) (shares_low_bits glyphs g) (more left)

-- the same, where all glyphs are taken
pub covered_taken : (g n : ℕ) (glyphs : List ℕ) → length glyphs ≤ n → is_covered g glyphs ≡ true → shares_low_bits (take n glyphs) g ≡ true
covered_taken g n glyphs long e = ap (λ xs. shares_low_bits xs g) (take-all n glyphs long) ∙ covered_low g glyphs e

-- ---- ranges

-- one more number
pub number_step : (first k : ℕ) (old set new : List ℕ) → AddsLow (shares_low_bits (numbers_from first k)) old set → AddsLow (λ g. (first + k) % 1024 == g % 1024) set new
    → AddsLow (shares_low_bits (numbers_from first (k + 1))) old new
number_step first k old set new before after g =
    let one : Bool = (first + k) % 1024 == g % 1024 in
    let more : shares_low_bits (numbers_from first (k + 1)) g ≡ (shares_low_bits (numbers_from first k) g || one) =
    ap (λ n. shares_low_bits (numbers_from first n) g) (add-one k) ∙ list_any-append (λ h. h % 1024 == g % 1024) (numbers_from first k) ((first + k) ∷ [])
    ∙ ap (λ t. shares_low_bits (numbers_from first k) g || t) (or_false one) in
    after g ∙ ap (λ t. t || one) (before g) ∙ or_assoc (has_low_bits old g) (shares_low_bits (numbers_from first k) g) one ∙ ap (λ t. has_low_bits old g || t) (sym more)

-- the low bits of each number of a range
pub range_low : (first n g : ℕ) → first ≤ g → g < first + n → shares_low_bits (numbers_from first n) g ≡ true
range_low first n g low high = number_there (λ h. h % 1024 == g % 1024) first n g low high (same_as (g % 1024) (g % 1024) refl)

-- from one number on, 1024 numbers have each remainder
steps_to : (first g : ℕ) → (first + (g % 1024 + 1024 - first % 1024) % 1024) % 1024 ≡ g % 1024
steps_to first g = omega arith

-- 1024 numbers after each other have all low bits
all_low : (first n g : ℕ) → 1024 ≤ n → shares_low_bits (numbers_from first n) g ≡ true
all_low first n g long =
    let k : ℕ = first + (g % 1024 + 1024 - first % 1024) % 1024 in
    number_there (λ h. h % 1024 == g % 1024) first n k (omega arith) (omega (arith, long)) (same_as (k % 1024) (g % 1024) (steps_to first g))

-- words that have all low bits have those of each range that is as long
pub all_adds : (first last : ℕ) (old new : List ℕ) → 1023 ≤ last - first → ((g : ℕ) → has_low_bits new g ≡ true) → AddsLow (shares_low_bits (numbers_from first (last + 1 - first))) old new
all_adds first last old new long all g =
    all g ∙ sym (or_second (has_low_bits old g) (shares_low_bits (numbers_from first (last + 1 - first)) g) (all_low first (last + 1 - first) g (omega (arith, long))))

-- a range whose last glyph is before its first has no glyph
pub none_low : (first last : ℕ) (old : List ℕ) → last < first → AddsLow (shares_low_bits (numbers_from first (last + 1 - first))) old old
none_low first last old less g =
    let none : last + 1 - first ≡ 0 = omega (arith, less) in
    sym (ap (λ n. has_low_bits old g || shares_low_bits (numbers_from first n) g) none ∙ or_false (has_low_bits old g))

-- ---- words

word_of_all : (n j w : ℕ) → j < n → slice_get (replicate n w) j ≡ Some w
word_of_all zero j w lt = absurd (omega (arith, lt))
word_of_all (suc n) zero w lt = refl
word_of_all (suc n) (suc j) w lt = word_of_all n j w (omega (arith, lt))

-- a glyph was added by its bit
pub low_added : (glyph i k v d : ℕ) (ws : List ℕ) → i ≡ glyph % 1024 / 64 → k ≡ glyph % 1024 % 64 → i < length ws
    → ((b : ℕ) → has_bucket v b ≡ (has_bucket (get_or ws i d) b || b == k)) → AddsLow (λ g. glyph % 1024 == g % 1024) ws (set ws i v)
low_added glyph i k v d ws at bit lt h g =
    bit_added_to 0 (glyph % 1024) (g % 1024) v i k (get_or ws i d) d ws ws (omega arith) (omega (arith, at)) bit lt refl h refl

-- 16 full words have all low bits
pub full_low : (g : ℕ) → has_low_bits (replicate 16 (2 ^ 64 - 1)) g ≡ true
full_low g =
    bit_in_word 0 (g % 1024) (2 ^ 64 - 1) (replicate 16 (2 ^ 64 - 1)) (omega arith) (word_of_all 16 (g % 1024 / 64 - 0) (2 ^ 64 - 1) (omega arith))
    ∙ full_mask (g % 1024 % 64) (below_64 (g % 1024))

-- whether the bit of a glyph's low bits is set, read from its word
low_in_word : (ws : List ℕ) (g d : ℕ) → g % 1024 / 64 < length ws → has_low_bits ws g ≡ has_bucket (get_or ws (g % 1024 / 64) d) (g % 1024 % 64)
low_in_word ws g d lt = bit_in_word 0 (g % 1024) (get_or ws (g % 1024 / 64) d) ws (omega arith) (slice_get-get_or ws (g % 1024 / 64 - 0) d (omega (arith, lt)) ∙ ap (λ i. Some (get_or ws i d)) (omega arith))

-- no bit of so many words is in both
abbrev pub AreApartTo : ℕ → List ℕ → List ℕ → Type 0
AreApartTo n ws vs = (g : ℕ) → g % 1024 / 64 < n → has_low_bits ws g ≡ true → has_low_bits vs g ≡ false

-- one more word
pub apart_step : (i d e : ℕ) (ws vs : List ℕ) → i < length ws → i < length vs → bit_and (get_or ws i d) (get_or vs i e) ≡ 0 → AreApartTo i ws vs → AreApartTo (i + 1) ws vs
apart_step i d e ws vs in_first in_second none before g low there = elim (cases_lt (g % 1024 / 64) i) [
  | inl lt ↦ before g lt there
  | inr ge ↦ let at : g % 1024 / 64 ≡ i = omega (arith, low, ge) in
      low_in_word vs g e (rw at in_second) ∙ buckets_apart (get_or ws (g % 1024 / 64) d) (get_or vs (g % 1024 / 64) e) (g % 1024 % 64) (rw at none) (sym (low_in_word ws g d (rw at in_first)) ∙ there)
]

-- ---- where a test is exact

-- the glyph of a bit of a word
word_bit : (ws : List ℕ) (i d b : ℕ) → i < 16 → i < length ws → b < 64 → has_low_bits ws (i * 64 + b) ≡ has_bucket (get_or ws i d) b
word_bit ws i d b few lt less =
    let g : ℕ = i * 64 + b in
    let at : g % 1024 / 64 ≡ i = omega (arith, few, less) in
    let bit : g % 1024 % 64 ≡ b = omega (arith, few, less) in
    low_in_word ws g d (rw at lt) ∙ ap (λ k. has_bucket (get_or ws k d) (g % 1024 % 64)) at ∙ ap (has_bucket (get_or ws i d)) bit

-- words that have no low bits in common have no common bit
pub no_common_word : (i d e : ℕ) (ws vs : List ℕ) → i < 16 → i < length ws → i < length vs → get_or ws i d < 2 ^ 64 → ((g : ℕ) → has_low_bits ws g ≡ true → has_low_bits vs g ≡ false) → bit_and (get_or ws i d) (get_or vs i e) ≡ 0
no_common_word i d e ws vs few in_first in_second fits apart =
    no_common_bit (get_or ws i d) (get_or vs i e) fits (λ b less there. sym (word_bit vs i e b few in_second less) ∙ apart (i * 64 + b) (word_bit ws i d b few in_first less ∙ there))

-- so many words have all their bits
abbrev pub AreFullTo : ℕ → List ℕ → Type 0
AreFullTo n ws = (g : ℕ) → g % 1024 / 64 < n → has_low_bits ws g ≡ true

-- one more full word
pub full_step : (i d : ℕ) (ws : List ℕ) → i < length ws → get_or ws i d ≡ 2 ^ 64 - 1 → AreFullTo i ws → AreFullTo (i + 1) ws
full_step i d ws inside full before g low = elim (cases_lt (g % 1024 / 64) i) [
  | inl lt ↦ before g lt
  | inr ge ↦ let at : g % 1024 / 64 ≡ i = omega (arith, low, ge) in
      low_in_word ws g d (rw at inside) ∙ ap (λ k. has_bucket (get_or ws k d) (g % 1024 % 64)) at ∙ ap (λ w. has_bucket w (g % 1024 % 64)) full ∙ full_mask (g % 1024 % 64) (below_64 (g % 1024))
]

pub all_full : (ws : List ℕ) (n : ℕ) → 16 ≤ n → AreFullTo n ws → (g : ℕ) → has_low_bits ws g ≡ true
all_full ws n le full g = full g (omega (arith, le))

-- words that have all low bits are full
pub is_full : (i d : ℕ) (ws : List ℕ) → i < 16 → i < length ws → get_or ws i d < 2 ^ 64 → ((g : ℕ) → has_low_bits ws g ≡ true) → get_or ws i d ≡ 2 ^ 64 - 1
is_full i d ws few lt fits all = all_buckets (get_or ws i d) fits (λ b less. sym (word_bit ws i d b few lt less) ∙ all (i * 64 + b))
