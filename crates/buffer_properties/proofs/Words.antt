-- The bits of a property word.
use Rattle.std.proofs.Common.{ℕ, ◌≡◌, ◌≤◌, ◌<◌, ◌+◌, ◌-◌, ◌*◌, ◌%◌, ◌==◌, Bool, true, false, ap, ap₂, ◌∙◌, arith}
use Rattle.std.proofs.lemmas.Nat.{and_mask, and_block}
use Rattle.std.specs.Int.RustNames.{bit_and}
use Rattle.unicode.specs.GeneralCategory.{general_category}
use Rattle.buffer_unicode.specs.Category.{category_number}
use Rattle.buffer_unicode.specs.Character.{is_default_ignorable_character}
use Rattle.buffer_properties.specs.Properties.{bit_if, is_hidden_character, is_mark_character, properties_of, text_properties_of}
use Rattle.buffer_properties.specs.Laws.{ContinuationLeaves, LowBitsAreTheCategory}
use Rattle.buffer_properties.proofs.PropertyWords.{category_fits}

-- a bit that is there or not
pub bit_times : (b : Bool) (m : ℕ) → bit_if b m ≡ m * bit_if b 1
bit_times true m = omega arith
bit_times false m = omega arith

pub at_most_one : (b : Bool) → bit_if b 1 ≤ 1
at_most_one true = omega arith
at_most_one false = omega arith

pub word_of : (u : ℕ) → properties_of u ≡ category_number (general_category u) + (32 * bit_if (is_default_ignorable_character u) 1 + (64 * bit_if (is_hidden_character u) 1 + (256 * bit_if (u == 0x200D) 1 + 512 * bit_if (u == 0x200C) 1)))
unfolding properties_of
word_of u =
    ap (λ x. category_number (general_category u) + x) (ap₂ (λ x y. x + y) (bit_times (is_default_ignorable_character u) 0x20)
    (ap₂ (λ x y. x + y) (bit_times (is_hidden_character u) 0x40) (ap₂ (λ x y. x + y) (bit_times (u == 0x200D) 0x100) (bit_times (u == 0x200C) 0x200))))

low_bits : (n a h j k : ℕ) → n < 32 → (n + (32 * a + (64 * h + (256 * j + 512 * k)))) % 32 ≡ n
low_bits n a h j k le = omega (arith, le)

pub low_bits_are_the_category : LowBitsAreTheCategory
low_bits_are_the_category u =
    and_mask (properties_of u) 5 ∙ ap (λ w. w % 32) (word_of u) ∙ low_bits _ _ _ _ _ (category_fits (general_category u))

-- the bit above the seven low ones
pub middle_bit : (n a h c j k : ℕ) → n < 32 → a ≤ 1 → h ≤ 1 → c ≤ 1
    → bit_and ((n + (32 * a + (64 * h + (256 * j + 512 * k)))) + 128 * c) 128 ≡ 128 * c
middle_bit n a h c j k p q r s =
    let upper = c + (2 * j + 4 * k) in
    let lower = n + (32 * a + 64 * h) in
    let below : lower < 128 = omega (arith, p, q, r) in
    let zero_below : 0 < 128 = omega arith in
    let cut : (n + (32 * a + (64 * h + (256 * j + 512 * k)))) + 128 * c ≡ upper * 128 + lower = omega arith in
    let blocks : bit_and (upper * 128 + lower) 128 ≡ bit_and upper 1 * 128 + bit_and lower 0 = and_block 7 upper 1 lower 0 below zero_below in
    let one : bit_and upper 1 ≡ upper % 2 = and_mask upper 1 in
    let none : bit_and lower 0 ≡ lower % 1 = and_mask lower 0 in
    let odd : upper % 2 ≡ c = omega (arith, s) in
    rw cut (rw blocks (omega (arith, one, none, odd)))

pub continuation_leaves : ContinuationLeaves
continuation_leaves u =
    let n = category_number (general_category u) in
    let a = bit_if (is_default_ignorable_character u) 1 in
    let h = bit_if (is_hidden_character u) 1 in
    let c = bit_if (is_mark_character u) 1 in
    let j = bit_if (u == 0x200D) 1 in
    let k = bit_if (u == 0x200C) 1 in
    let whole : text_properties_of u ≡ (n + (32 * a + (64 * h + (256 * j + 512 * k)))) + 128 * c = ap₂ (λ x y. x + y) (word_of u) (bit_times (is_mark_character u) 128) in
    let bit = middle_bit n a h c j k (category_fits (general_category u)) (at_most_one (is_default_ignorable_character u)) (at_most_one (is_hidden_character u)) (at_most_one (is_mark_character u)) in
    ap (λ w. w - bit_and w 128) whole ∙ rw bit (rw (word_of u) (omega arith))
