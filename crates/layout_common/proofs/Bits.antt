-- Buckets as the bits of a mask.
use mathlib.Core.Bool.{false≢true}
use Rattle.std.specs.Int.{bit_at}
use Rattle.std.specs.List.{list_any}
use Rattle.std.proofs.Common.{ℕ, zero, suc, ◌≡◌, ◌≢◌, ◌==◌, ◌||◌, ◌<◌, ◌≤◌, ◌^◌, ◌%◌, ◌/◌, ◌*◌, ◌+◌, ◌-◌, not, Bool, true, false, List, [], ◌∷◌, ◌++◌, length, take, get_or, inl, inr, bit_and, bit_or, max, min, refl, sym, ap, subst, ◌∙◌, arith, add-one, lit<}
use Rattle.std.proofs.lemmas.Bool.Decides.{nat_tests}
use Rattle.std.proofs.lemmas.Nat.Bits.{bit_at_or, bit_at_and, bit_at-pow_same, bit_at-pow_other, bit_at-zero, bit_at-lt, bit_at_ones, same_from_bits_below}
use Rattle.std.proofs.lemmas.Bool.{cases_lt}
use Rattle.std.proofs.lemmas.List.Folds.{list_any_more, list_any-append}
use Rattle.std.proofs.lemmas.Nat.{and_le_l, and_mask, le-div, pow_below, pow_pos}
use Rattle.std.proofs.Math.Nat.{div-eq_of_eq-mul_left, div-eq_of_lt, div-mul-le_self, lt-div-mul-add, mod-eq_of_lt, mul-le-mul_right}
use Rattle.std.proofs.Math.Pow.{pow_mono}
use Rattle.layout_common.specs.Buckets.{IsMaskOf, bucket, has_bucket, is_bucket_from, is_bucket_of, may_have_glyph, numbers_from}
use Rattle.layout_common.specs.Coverage.{is_covered}
use Rattle.buffer_facts.proofs.Truth.{or_first, or_second, or_true, or_false}
use Rattle.buffer_facts.proofs.Numbers.{same_by_test as equal, apart_by_test as other, test_of_same as same_as, test_of_itself as same_number}

-- ---- tests

two : (n : ℕ) → n < 2 → (max n 1 == 1) ≡ true
two n lt = grind (arith, nat_tests, lt)

pub or_assoc : (a b c : Bool) → ((a || b) || c) ≡ (a || (b || c))
or_assoc true b c = refl
or_assoc false b c = refl

-- ---- a bucket is a bit

pub bucket_added : (m k b : ℕ) → has_bucket (bit_or m (2 ^ k)) b ≡ (has_bucket m b || b == k)
bucket_added m k b = by_case (b == k) refl
  where
    by_case : (t : Bool) → (b == k) ≡ t → has_bucket (bit_or m (2 ^ k)) b ≡ (has_bucket m b || b == k)
    by_case true e =
        let same = equal b k e in
        let one : bit_at (2 ^ k) b ≡ 1 = ap (bit_at (2 ^ k)) same ∙ bit_at-pow_same k in
        let both : bit_at (bit_or m (2 ^ k)) b ≡ max (bit_at m b) 1 = bit_at_or m (2 ^ k) b ∙ ap (max (bit_at m b)) one in
        ap (λ n. n == 1) both ∙ two (bit_at m b) (bit_at-lt m b) ∙ sym (ap (λ t. has_bucket m b || t) e ∙ or_true (has_bucket m b))
    by_case false e =
        let none : bit_at (2 ^ k) b ≡ 0 = bit_at-pow_other k b (other b k e) in
        let zero_more : max (bit_at m b) 0 ≡ bit_at m b = omega arith in
        let both : bit_at (bit_or m (2 ^ k)) b ≡ bit_at m b = bit_at_or m (2 ^ k) b ∙ ap (max (bit_at m b)) none ∙ zero_more in
        ap (λ n. n == 1) both ∙ sym (ap (λ t. has_bucket m b || t) e ∙ or_false (has_bucket m b))

pub buckets_apart : (a c b : ℕ) → bit_and a c ≡ 0 → has_bucket a b ≡ true → has_bucket c b ≡ false
buckets_apart a c b none there =
    let one : bit_at a b ≡ 1 = equal (bit_at a b) 1 there in
    let both : min (bit_at a b) (bit_at c b) ≡ 0 = sym (bit_at_and a c b) ∙ ap (λ n. bit_at n b) none ∙ bit_at-zero b in
    let small = bit_at-lt c b in
    let zero_there : bit_at c b ≡ 0 = omega (arith, one, both, small) in
    ap (λ n. n == 1) zero_there

pub empty_mask : (b : ℕ) → has_bucket 0 b ≡ false
empty_mask b = ap (λ n. n == 1) (bit_at-zero b)

pub full_mask : (b : ℕ) → b < 64 → has_bucket (2 ^ 64 - 1) b ≡ true
full_mask b lt = ap (λ n. n == 1) (bit_at_ones 64 b lt)

no_bit : (b : ℕ) → 64 ≤ b → bit_at (2 ^ 64 - 1) b ≡ 0
no_bit b le =
    let less : 2 ^ 64 ≤ 2 ^ b = pow_mono le in
    let none : (2 ^ 64 - 1) / 2 ^ b ≡ 0 = div-eq_of_lt (omega (arith, less)) in
    ap (λ n. n % 2) none

pub no_bucket : (b : ℕ) → 64 ≤ b → has_bucket (2 ^ 64 - 1) b ≡ false
no_bucket b le = ap (λ n. n == 1) (no_bit b le)

pub below_64 : (n : ℕ) → n % 64 < 64
below_64 n = omega arith

pub bucket_small : (s g : ℕ) → bucket s g < 64
bucket_small s g = below_64 (g / 2 ^ s)

-- a bit below the 64th
pub shifted : (k : ℕ) → k < 64 → 1 * 2 ^ k % 2 ^ 64 ≡ 2 ^ k
shifted k lt =
    let one : 1 * 2 ^ k ≡ 2 ^ k = omega arith in
    ap (λ n. n % 2 ^ 64) one ∙ mod-eq_of_lt (pow_below k 64 lt)

pub in_bucket : (n : ℕ) → bit_and n 63 ≡ n % 64
in_bucket n = and_mask n 6

lt_of : (a b c : ℕ) → a < b → b ≤ c → a < c
lt_of a b c lt le = omega (arith, lt, le)

-- a glyph that is below so many bits
pub no_bits : (g s : ℕ) → g < 2 ^ 16 → 16 ≤ s → g / 2 ^ s ≡ 0
no_bits g s lt le =
    let less : 2 ^ 16 ≤ 2 ^ s = pow_mono le in
    div-eq_of_lt (lt_of g (2 ^ 16) (2 ^ s) lt less)

-- ---- what was added is there, and what was there stays

-- one mask became another by the addition of buckets
abbrev pub Adds : (ℕ → Bool) → ℕ → ℕ → Type 0
Adds is_new old new = (b : ℕ) → has_bucket new b ≡ (has_bucket old b || is_new b)

pub added_there : (is_new : ℕ → Bool) (old new b : ℕ) → Adds is_new old new → is_new b ≡ true → has_bucket new b ≡ true
added_there is_new old new b adds e = adds b ∙ or_second (has_bucket old b) (is_new b) e

pub old_stays : (is_new : ℕ → Bool) (old new b : ℕ) → Adds is_new old new → has_bucket old b ≡ true → has_bucket new b ≡ true
old_stays is_new old new b adds e = adds b ∙ or_first (has_bucket old b) (is_new b) e

-- a glyph's bucket is that of one of some glyphs where it is one of them
pub covered_bucket : (s g : ℕ) (glyphs : List ℕ) → is_covered g glyphs ≡ true → is_bucket_of s glyphs (bucket s g) ≡ true
covered_bucket s g [] e = absurd (false≢true e)
covered_bucket s g (h ∷ glyphs) e = by_test (h == g) refl e (covered_bucket s g glyphs)
  where
    by_test : (t : Bool) → (h == g) ≡ t → (t || is_covered g glyphs) ≡ true → (is_covered g glyphs ≡ true → is_bucket_of s glyphs (bucket s g) ≡ true)
        → (bucket s g == bucket s h || is_bucket_of s glyphs (bucket s g)) ≡ true
    by_test true is _ more = or_first (bucket s g == bucket s h) (is_bucket_of s glyphs (bucket s g)) (same_as (bucket s g) (bucket s h) (ap (bucket s) (sym (equal h g is))))
    by_test false is left more = or_second (bucket s g == bucket s h) (is_bucket_of s glyphs (bucket s g)) (more left)

-- ---- ranges

-- the bucket of one of the groups from a group on
pub group_there : (first n k b : ℕ) → k < n → b ≡ (first + k) % 64 → is_bucket_from first n b ≡ true
group_there first zero k b lt e = elim lt [ ]
group_there first (suc n) k b lt e = by_test (k == n) refl (λ less. group_there first n k b less e)
  where
    by_test : (t : Bool) → (k == n) ≡ t → (k < n → is_bucket_from first n b ≡ true) → (is_bucket_from first n b || b == (first + n) % 64) ≡ true
    by_test true is more = or_second (is_bucket_from first n b) (b == (first + n) % 64) (same_as b ((first + n) % 64) (e ∙ ap (λ m. (first + m) % 64) (equal k n is)))
    by_test false is more =
        let apart = other k n is in
        or_first (is_bucket_from first n b) (b == (first + n) % 64) (more (omega (arith, lt, apart)))

-- from one number on, 64 numbers have each remainder
steps_to : (first b : ℕ) → b < 64 → b ≡ (first + (b + 64 - first % 64) % 64) % 64
steps_to first b lt = omega (arith, lt)

pub all_groups : (first n b : ℕ) → 64 ≤ n → b < 64 → is_bucket_from first n b ≡ true
all_groups first n b le lt = group_there first n ((b + 64 - first % 64) % 64) b (lt_of _ 64 n (below_64 (b + 64 - first % 64)) le) (steps_to first b lt)

not_64 : (b n : ℕ) → 64 ≤ b → (b == n % 64) ≡ false
not_64 b n le = let small = below_64 n in grind (arith, nat_tests, le, small)

pub no_group : (first n b : ℕ) → 64 ≤ b → is_bucket_from first n b ≡ false
no_group first zero b le = refl
no_group first (suc n) b le = rw (no_group first n b le, not_64 b (first + n) le) refl

le_of : (a b c : ℕ) → a ≤ b → b ≤ c → a ≤ c
le_of a b c first second = omega (arith, first, second)

pub div_rises : (a b d : ℕ) → 0 < d → a ≤ b → a / d ≤ b / d
div_rises a b d pos le = le-div (a / d) b d pos (le_of _ a b (div-mul-le_self a d) le)

step_within : (a c g : ℕ) → a ≤ g → g ≤ c → g - a < c + 1 - a
step_within a c g low high = omega (arith, low, high)

step_back : (a g : ℕ) → a ≤ g → g ≡ a + (g - a)
step_back a g le = omega (arith, le)

-- the bucket of each glyph of a range is that of one of the range's groups
pub range_bucket : (s a c g : ℕ) → a ≤ g → g ≤ c → is_bucket_from (a / 2 ^ s) (c / 2 ^ s + 1 - a / 2 ^ s) (bucket s g) ≡ true
range_bucket s a c g low high =
    let d : ℕ = 2 ^ s in
    let from : a / d ≤ g / d = div_rises a g d (pow_pos s) low in
    let up : g / d ≤ c / d = div_rises g c d (pow_pos s) high in
    group_there (a / d) (c / d + 1 - a / d) (g / d - a / d) (g / d % 64) (step_within (a / d) (c / d) (g / d) from up) (ap (λ n. n % 64) (step_back (a / d) (g / d) from))

-- the mask of all buckets has those of each range that is as long
pub full_adds : (first n old : ℕ) → 64 ≤ n → ((b : ℕ) → 64 ≤ b → has_bucket old b ≡ false) → Adds (is_bucket_from first n) old (2 ^ 64 - 1)
full_adds first n old le none b = elim (cases_lt b 64) [
  | inl lt ↦ full_mask b lt ∙ sym (or_second (has_bucket old b) (is_bucket_from first n b) (all_groups first n b le lt))
  | inr ge ↦ no_bucket b ge ∙ sym (rw (none b ge, no_group first n b ge) refl)
]

-- a mask of 64 bits has no bucket past the last
pub past_mask : (m b : ℕ) → m < 2 ^ 64 → 64 ≤ b → has_bucket m b ≡ false
past_mask m b lt le =
    let none : m / 2 ^ b ≡ 0 = div-eq_of_lt (lt_of m (2 ^ 64) (2 ^ b) lt (pow_mono le)) in
    ap (λ n. n % 2 == 1) none

-- ---- loops

group_next : (first k b : ℕ) → is_bucket_from first (k + 1) b ≡ (is_bucket_from first k b || b == (first + k) % 64)
group_next first k b = ap (λ n. is_bucket_from first n b) (add-one k)

-- one more group
pub group_step : (first k old set new g : ℕ) → Adds (is_bucket_from first k) old set → Adds (λ b. b == g) set new → g ≡ (first + k) % 64 → Adds (is_bucket_from first (k + 1)) old new
group_step first k old set new g before after is b =
    after b ∙ ap (λ t. t || b == g) (before b) ∙ or_assoc (has_bucket old b) (is_bucket_from first k b) (b == g)
    ∙ ap (λ n. has_bucket old b || (is_bucket_from first k b || b == n)) is ∙ ap (λ t. has_bucket old b || t) (sym (group_next first k b))

pub is_long : (f l a z : ℕ) → f ≡ a → l ≡ z → 63 ≤ l - f → 64 ≤ z + 1 - a
is_long f l a z first last le = omega (arith, first, last, le)

same_count : (f l a z : ℕ) → f ≡ a → l ≡ z → a ≤ z → l - f + 1 ≡ z + 1 - a
same_count f l a z first last le = omega (arith, first, last, le)

-- the groups of a range, counted in two ways
pub same_range : (f l a z b : ℕ) → f ≡ a → l ≡ z → a ≤ z → is_bucket_from f (l - f + 1) b ≡ is_bucket_from a (z + 1 - a) b
same_range f l a z b first last le = ap (λ m. is_bucket_from m (l - f + 1) b) first ∙ ap (λ n. is_bucket_from a n b) (same_count f l a z first last le)

not_other : (m n : ℕ) → not (m == n) ≡ false → m ≡ n
not_other m n e = grind (arith, nat_tests, e)

-- the mask of all buckets may have each glyph
pub full_has : (m s g : ℕ) → not (m == 2 ^ 64 - 1) ≡ false → may_have_glyph s m g ≡ true
full_has m s g e = ap (λ k. has_bucket k (bucket s g)) (not_other m (2 ^ 64 - 1) e) ∙ full_mask (bucket s g) (bucket_small s g)

-- ---- the glyphs that were added

-- more glyphs were added
pub more_added : (s old new : ℕ) (others glyphs : List ℕ) → Adds (is_bucket_of s glyphs) old new → IsMaskOf s old others → IsMaskOf s new (others ++ glyphs)
more_added s old new others glyphs adds is b =
    adds b ∙ ap (λ t. t || is_bucket_of s glyphs b) (is b) ∙ sym (list_any-append (λ g. b == bucket s g) others glyphs)

pub one_added : (s old new glyph : ℕ) (glyphs : List ℕ) → Adds (λ b. b == bucket s glyph) old new → IsMaskOf s old glyphs → IsMaskOf s new (glyphs ++ glyph ∷ [])
one_added s old new glyph glyphs adds is =
    more_added s old new glyphs (glyph ∷ []) (λ b. adds b ∙ ap (λ t. has_bucket old b || t) (sym (or_false (b == bucket s glyph)))) is

-- ---- a range has the buckets of its glyphs

-- two tests of which each passes where the other does
pub same_truth : (a b : Bool) → (a ≡ true → b ≡ true) → (b ≡ true → a ≡ true) → a ≡ b
same_truth true b forth back = sym (forth refl)
same_truth false true forth back = back refl
same_truth false false forth back = refl

either_true : (a b : Bool) {P : Type 0} → (a || b) ≡ true → (a ≡ true → P) → (b ≡ true → P) → P
either_true true b e first second = first refl
either_true false b e first second = second e

-- one of the numbers from one on passes a test
pub number_there : (p : ℕ → Bool) (first n k : ℕ) → first ≤ k → k < first + n → p k ≡ true → list_any p (numbers_from first n) ≡ true
number_there p first zero k low high e = absurd (omega (arith, low, high))
number_there p first (suc n) k low high e = list_any-append p (numbers_from first n) ((first + n) ∷ []) ∙ elim (cases_lt k (first + n)) [
  | inl lt ↦ or_first (list_any p (numbers_from first n)) (p (first + n) || false) (number_there p first n k low lt e)
  | inr ge ↦ let last : first + n ≡ k = omega (arith, ge, high) in
      or_second (list_any p (numbers_from first n)) (p (first + n) || false) (or_first (p (first + n)) false (ap p last ∙ e))
]

number_found : (p : ℕ → Bool) (first n : ℕ) → list_any p (numbers_from first n) ≡ true → (k : ℕ) × (first ≤ k) × (k < first + n) × (p k ≡ true)
number_found p first zero e = absurd (false≢true e)
number_found p first (suc n) e = either_true (list_any p (numbers_from first n)) (p (first + n) || false) (sym (list_any-append p (numbers_from first n) ((first + n) ∷ [])) ∙ e)
    (λ before. let k = number_found p first n before in let less = k.2 in (k.0, k.1, omega (arith, less), k.3))
    (λ last. (first + n, omega arith, omega arith, sym (or_false (p (first + n))) ∙ last))

group_found : (first n b : ℕ) → is_bucket_from first n b ≡ true → (k : ℕ) × (k < n) × (b ≡ (first + k) % 64)
group_found first zero b e = absurd (false≢true e)
group_found first (suc n) b e = either_true (is_bucket_from first n b) (b == (first + n) % 64) e
    (λ before. let k = group_found first n b before in let less = k.1 in (k.0, omega (arith, less), k.2))
    (λ last. (n, omega arith, equal b ((first + n) % 64) last))

-- a group between those of two numbers is that of a number between them
in_group : (a c d m : ℕ) → 0 < d → a ≤ c → a / d ≤ m → m ≤ c / d → (g : ℕ) × (a ≤ g) × (g ≤ c) × (g / d ≡ m)
in_group a c d m pos le low high = elim (cases_lt (a / d) m) [
  | inl lt ↦ let up : (a / d + 1) * d ≤ m * d = mul-le-mul_right d (omega (arith, lt)) in
      let past : a < a / d * d + d = lt-div-mul-add pos in
      let one : (a / d + 1) * d ≡ a / d * d + d = omega arith in
      let below : m * d ≤ c / d * d = mul-le-mul_right d high in
      let self : c / d * d ≤ c = div-mul-le_self c d in
      (m * d, le_of a (a / d * d + d) (m * d) (omega (arith, past)) (subst (λ n. n ≤ m * d) one up), le_of (m * d) (c / d * d) c below self, div-eq_of_eq-mul_left pos refl)
  | inr ge ↦ (a, omega arith, le, omega (arith, low, ge))
]

pub range_buckets : (s a c b : ℕ) → a ≤ c → is_bucket_from (a / 2 ^ s) (c / 2 ^ s + 1 - a / 2 ^ s) b ≡ is_bucket_of s (numbers_from a (c + 1 - a)) b
range_buckets s a c b le =
    let d : ℕ = 2 ^ s in
    let n : ℕ = c / d + 1 - a / d in
    let rises : a / d ≤ c / d = div_rises a c d (pow_pos s) le in
    same_truth (is_bucket_from (a / d) n b) (is_bucket_of s (numbers_from a (c + 1 - a)) b)
    (λ there.
    let k = group_found (a / d) n b there in
    let less = k.1 in
    let g = in_group a c d (a / d + k.0) (pow_pos s) le (omega arith) (omega (arith, less, rises)) in
    number_there (λ h. b == bucket s h) a (c + 1 - a) g.0 g.1 (let high = g.2 in omega (arith, high, le)) (same_as b (bucket s g.0) (k.2 ∙ ap (λ m. m % 64) (sym g.3))))
    (λ there.
    let g = number_found (λ h. b == bucket s h) a (c + 1 - a) there in
    let high = g.2 in
    ap (is_bucket_from (a / d) n) (equal b (bucket s g.0) g.3) ∙ range_bucket s a c g.0 g.1 (omega (arith, high, le)))

-- the bucket of each glyph of a range
pub range_there : (s a c g : ℕ) → a ≤ g → g ≤ c → is_bucket_of s (numbers_from a (c + 1 - a)) (bucket s g) ≡ true
range_there s a c g low high = number_there (λ h. bucket s g == bucket s h) a (c + 1 - a) g low (omega (arith, low, high)) (same_number (bucket s g))

-- a range whose last glyph is before its first has no glyph
pub empty_range : (s old a c : ℕ) → c < a → Adds (is_bucket_of s (numbers_from a (c + 1 - a))) old old
empty_range s old a c less b =
    let none : c + 1 - a ≡ 0 = omega (arith, less) in
    sym (ap (λ n. has_bucket old b || is_bucket_of s (numbers_from a n) b) none ∙ or_false (has_bucket old b))

-- ---- where a test is exact

not_there : (m b : ℕ) → has_bucket m b ≡ false → bit_at m b ≡ 0
not_there m b e =
    let apart = other (bit_at m b) 1 e in
    let small = bit_at-lt m b in
    omega (arith, apart, small)

-- a mask of 64 bits that has each bucket is that of all
pub all_buckets : (m : ℕ) → m < 2 ^ 64 → ((b : ℕ) → b < 64 → has_bucket m b ≡ true) → m ≡ 2 ^ 64 - 1
all_buckets m lt all = same_from_bits_below 64 m (2 ^ 64 - 1) lt (lit< tt) (λ b less. equal (bit_at m b) 1 (all b less) ∙ sym (bit_at_ones 64 b less))

-- two masks of 64 bits without a common bucket have no common bit
pub no_common_bit : (a c : ℕ) → a < 2 ^ 64 → ((b : ℕ) → b < 64 → has_bucket a b ≡ true → has_bucket c b ≡ false) → bit_and a c ≡ 0
no_common_bit a c lt apart = same_from_bits_below 64 (bit_and a c) 0 (le_lt (bit_and a c) a (2 ^ 64) (and_le_l a c) lt) (lit< tt) (λ b less. bit_at_and a c b ∙ by b (has_bucket a b) refl (apart b less) ∙ sym (bit_at-zero b))
  where
    le_lt : (x y z : ℕ) → x ≤ y → y < z → x < z
    le_lt x y z le lt = omega (arith, le, lt)

    by : (b : ℕ) (t : Bool) → has_bucket a b ≡ t → (has_bucket a b ≡ true → has_bucket c b ≡ false) → min (bit_at a b) (bit_at c b) ≡ 0
    by b true there apart =
        let none = not_there c b (apart there) in
        omega (arith, none)
    by b false there apart =
        let none = not_there a b there in
        omega (arith, none)

-- a glyph of each bucket
glyph_of_bucket : (s b : ℕ) → b < 64 → bucket s (b * 2 ^ s) ≡ b
glyph_of_bucket s b lt = ap (λ n. n % 64) (div-eq_of_eq-mul_left (pow_pos s) refl) ∙ mod-eq_of_lt lt

-- a mask that may have each glyph is that of all buckets
pub has_all : (m s : ℕ) → m < 2 ^ 64 → ((g : ℕ) → may_have_glyph s m g ≡ true) → not (m == 2 ^ 64 - 1) ≡ false
has_all m s lt all = ap not (same_as m (2 ^ 64 - 1) (all_buckets m lt (λ b less. ap (has_bucket m) (sym (glyph_of_bucket s b less)) ∙ all (b * 2 ^ s))))

-- two masks that may have no glyph in common have no common bit
pub none_common : (a c s : ℕ) → a < 2 ^ 64 → ((g : ℕ) → may_have_glyph s a g ≡ true → may_have_glyph s c g ≡ false) → not (bit_and a c == 0) ≡ false
none_common a c s lt apart = ap not (same_as (bit_and a c) 0 (no_common_bit a c lt (λ b less there.
    let at = glyph_of_bucket s b less in
    ap (has_bucket c) (sym at) ∙ apart (b * 2 ^ s) (ap (has_bucket a) at ∙ there))))
