-- Words of 64 bits, a bit for each glyph.
use Rattle.std.proofs.Common.{ℕ, zero, suc, ◌≡◌, ◌==◌, ◌||◌, ◌&&◌, ◌<◌, ◌≤◌, ◌%◌, ◌/◌, ◌-◌, Bool, true, false, if◌then◌else◌, List, [], ◌∷◌, ◌++◌, length, set, take, get_or, slice_get, Some, None, refl, sym, ap, ◌∙◌, nat_lt, arith}
use Rattle.std.specs.List.{list_any}
use Rattle.std.specs.Ordering.{nat_cmp}
use Rattle.std.specs.List.Sorted.{IsSorted}
use Rattle.std.proofs.lemmas.Bool.Decides.{nat_tests}
use Rattle.std.proofs.lemmas.List.Sorted.{IsNonDecreasingBy-from_sort}
use Rattle.std.proofs.lemmas.Option.{get_or_from_slice_get}
use Rattle.layout_common.specs.Bits.{has_bit, word_has}
use Rattle.layout_common.specs.Buckets.{has_bucket}
use Rattle.layout_common.specs.Coverage.{is_covered}
use Rattle.layout_common.proofs.Bits.{empty_mask}

-- ---- words

word_grown : (ws : List ℕ) (i b : ℕ) → word_has (slice_get (ws ++ 0 ∷ []) i) b ≡ word_has (slice_get ws i) b
word_grown [] zero b = empty_mask b
word_grown [] (suc i) b = refl
word_grown (w ∷ ws) zero b = refl
word_grown (w ∷ ws) (suc i) b = word_grown ws i b

by_start : (t : Bool) (a b : Bool) → a ≡ b → (if t then false else a) ≡ (if t then false else b)
by_start true a b e = refl
by_start false a b e = e

-- a word without bits adds none
pub word_appended : (start g : ℕ) (ws : List ℕ) → has_bit start (ws ++ 0 ∷ []) g ≡ has_bit start ws g
word_appended start g ws = by_start (nat_lt (g / 64) start) _ _ (word_grown ws (g / 64 - start) (g % 64))

or_false : (a : Bool) → a ≡ (a || false)
or_false true = refl
or_false false = refl

not_here : (j : ℕ) (t : Bool) → (suc j == 0 && t) ≡ false
not_here j t = let apart : (suc j == 0) ≡ false = grind (arith, nat_tests) in rw apart refl

not_there : (i : ℕ) (t : Bool) → (0 == suc i && t) ≡ false
not_there i t = let apart : (0 == suc i) ≡ false = grind (arith, nat_tests) in rw apart refl

next : (j i : ℕ) → (j == i) ≡ (suc j == suc i)
next j i = grind (arith, nat_tests)

pub word_set : (ws : List ℕ) (i k v : ℕ) (d : ℕ) → i < length ws → ((b : ℕ) → has_bucket v b ≡ (has_bucket (get_or ws i d) b || b == k)) → (j b : ℕ) → word_has (slice_get (set ws i v) j) b ≡ (word_has (slice_get ws j) b || (j == i && b == k))
word_set [] i k v d lt h j b = absurd (omega (arith, lt))
word_set (w ∷ ws) zero k v d lt h zero b = h b
word_set (w ∷ ws) zero k v d lt h (suc j) b = or_false (word_has (slice_get ws j) b) ∙ ap (λ t. word_has (slice_get ws j) b || t) (sym (not_here j (b == k)))
word_set (w ∷ ws) (suc i) k v d lt h zero b = or_false (has_bucket w b) ∙ ap (λ t. has_bucket w b || t) (sym (not_there i (b == k)))
word_set (w ∷ ws) (suc i) k v d lt h (suc j) b = word_set ws i k v d (omega (arith, lt)) h j b ∙ ap (λ t. word_has (slice_get ws j) b || (t && b == k)) (next j i)

-- ---- a bit is set

same_glyph : (start glyph g : ℕ) → start ≤ glyph / 64 → start ≤ g / 64 → (g / 64 - start == glyph / 64 - start && g % 64 == glyph % 64) ≡ (glyph == g)
same_glyph start glyph g le here = grind (arith, nat_tests)

other_glyph : (start glyph g : ℕ) → start ≤ glyph / 64 → nat_lt (g / 64) start ≡ true → (glyph == g) ≡ false
other_glyph start glyph g le lt = grind (arith, nat_tests)

from_start : (g start : ℕ) → nat_lt (g / 64) start ≡ false → start ≤ g / 64
from_start g start h = grind (arith, nat_tests)

pub bit_added : (start glyph g v d : ℕ) (ws : List ℕ) → start ≤ glyph / 64 → glyph / 64 - start < length ws
    → ((b : ℕ) → has_bucket v b ≡ (has_bucket (get_or ws (glyph / 64 - start) d) b || b == glyph % 64))
    → has_bit start (set ws (glyph / 64 - start) v) g ≡ (has_bit start ws g || glyph == g)
bit_added start glyph g v d ws le lt h = by_case (nat_lt (g / 64) start) refl
  where
    by_case : (t : Bool) → nat_lt (g / 64) start ≡ t → has_bit start (set ws (glyph / 64 - start) v) g ≡ (has_bit start ws g || glyph == g)
    by_case true e = rw (e, other_glyph start glyph g le e) refl
    by_case false e =
        let is = same_glyph start glyph g le (from_start g start e) in
        rw e (word_set ws (glyph / 64 - start) (glyph % 64) v d lt h (g / 64 - start) (g % 64) ∙ ap (λ t. word_has (slice_get ws (g / 64 - start)) (g % 64) || t) is)

-- the same, from the words before others were appended
pub bit_added_to : (start glyph g v i k w d : ℕ) (old ws : List ℕ) → start ≤ glyph / 64 → i ≡ glyph / 64 - start → k ≡ glyph % 64 → i < length ws → w ≡ get_or ws i d
    → ((b : ℕ) → has_bucket v b ≡ (has_bucket w b || b == k)) → has_bit start ws g ≡ has_bit start old g → has_bit start (set ws i v) g ≡ (has_bit start old g || glyph == g)
bit_added_to start glyph g v i k w d old ws le at bit lt word h same =
    rw at (bit_added start glyph g v d ws le (rw (sym at) lt) (λ b. h b ∙ rw (word, at, bit) refl)) ∙ ap (λ t. t || glyph == g) same

-- ---- bits of glyphs

pub take-all : (n : ℕ) (xs : List ℕ) → length xs ≤ n → take n xs ≡ xs
take-all zero [] le = refl
take-all zero (x ∷ xs) le = absurd (omega (arith, le))
take-all (suc n) [] le = refl
take-all (suc n) (x ∷ xs) le = ap (λ ys. x ∷ ys) (take-all n xs (omega (arith, le)))

-- a glyph is covered where one of the glyphs equals it
pub covered_any : (g : ℕ) (glyphs : List ℕ) → list_any (λ h. h == g) glyphs ≡ is_covered g glyphs
covered_any g [] = refl
covered_any g (h ∷ glyphs) = ap (λ t. h == g || t) (covered_any g glyphs)

-- the bits of all glyphs
pub bits_of_all : (start g n : ℕ) (ws glyphs : List ℕ) → length glyphs ≤ n → has_bit start ws g ≡ list_any (λ h. h == g) (take n glyphs) → has_bit start ws g ≡ is_covered g glyphs
bits_of_all start g n ws glyphs le h = h ∙ ap (list_any (λ h. h == g)) (take-all n glyphs le) ∙ covered_any g glyphs

-- the first of sorted glyphs is at most each of them
pub first_least : (glyphs : List ℕ) (first i d : ℕ) → IsSorted nat_cmp glyphs → slice_get glyphs 0 ≡ Some first → i < length glyphs → first ≤ get_or glyphs i d
first_least glyphs first i d sorted is lt =
    let order : get_or glyphs 0 d ≤ get_or glyphs i d = IsNonDecreasingBy-from_sort (λ g. g) glyphs sorted 0 i d (omega arith) lt in
    let same : get_or glyphs 0 d ≡ first = get_or_from_slice_get glyphs 0 first d is in
    omega (arith, order, same)

-- ---- reading

pub before_start : (start g : ℕ) (ws : List ℕ) → g / 64 < start → has_bit start ws g ≡ false
before_start start g ws lt = let test : nat_lt (g / 64) start ≡ true = grind (arith, nat_tests) in rw test refl

pub bit_in_word : (start g w : ℕ) (ws : List ℕ) → start ≤ g / 64 → slice_get ws (g / 64 - start) ≡ Some w → has_bit start ws g ≡ has_bucket w (g % 64)
bit_in_word start g w ws le at = let test : nat_lt (g / 64) start ≡ false = grind (arith, nat_tests) in rw (test, at) refl

pub past_words : (start g : ℕ) (ws : List ℕ) → start ≤ g / 64 → slice_get ws (g / 64 - start) ≡ None → has_bit start ws g ≡ false
past_words start g ws le at = let test : nat_lt (g / 64) start ≡ false = grind (arith, nat_tests) in rw (test, at) refl
