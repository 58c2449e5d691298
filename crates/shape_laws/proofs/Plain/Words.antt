-- The property words of characters that are no mark, no space and not ignorable.
use Rattle.std.proofs.Common.{ℕ, ◌≡◌, ◌≤◌, ◌<◌, ◌+◌, ◌-◌, ◌*◌, ◌%◌, ◌==◌, Bool, true, false, refl, ap, ap₂, ◌∙◌, arith}
use Rattle.std.proofs.lemmas.Nat.{and_mask, and_block}
use Rattle.std.specs.Int.RustNames.{bit_and, bit_or}
use Rattle.std.specs.Int.Bits.{or_add_and}
use Rattle.unicode.specs.GeneralCategory.{general_category}
use Rattle.buffer_unicode.specs.Category.{category_number}
use Rattle.buffer_unicode.specs.Character.{is_default_ignorable_character}
use Rattle.buffer_properties.specs.Properties.{bit_if, is_hidden_character, is_mark_character, properties_of, without_bits}
use Rattle.buffer_properties.specs.Characters.{is_mark_number}
use Rattle.buffer_properties.proofs.Classes.{mark_numbers}
use Rattle.buffer_properties.proofs.PropertyWords.{category_fits}
use Rattle.buffer_properties.proofs.Words.{at_most_one, bit_times}
use Rattle.shape_text.specs.Properties.{property_word_of}

-- the word by its parts
abbrev parts : ℕ → ℕ → ℕ → ℕ → ℕ
parts n h j k = n + (64 * h + (256 * j + 512 * k))

without_bit : (b : Bool) (m : ℕ) → b ≡ false → bit_if b m ≡ 0
without_bit true m e = cc
without_bit false m e = refl

zero_plus : (n m : ℕ) → n + (0 + m) ≡ n + m
zero_plus n m = omega arith

word_parts : (u : ℕ) → is_default_ignorable_character u ≡ false
    → properties_of u ≡ parts (category_number (general_category u)) (bit_if (is_hidden_character u) 1) (bit_if (u == 0x200D) 1) (bit_if (u == 0x200C) 1)
unfolding properties_of
word_parts u e =
    ap (λ x. category_number (general_category u) + x) (ap₂ (λ x y. x + y) (without_bit (is_default_ignorable_character u) 0x20 e)
    (ap₂ (λ x y. x + y) (bit_times (is_hidden_character u) 0x40) (ap₂ (λ x y. x + y) (bit_times (u == 0x200D) 0x100) (bit_times (u == 0x200C) 0x200))))
    ∙ zero_plus _ _

low_of : (n h j k c : ℕ) → n < 32 → bit_and (parts n h j k + 128 * c) 0x1F ≡ n
low_of n h j k c le = and_mask (parts n h j k + 128 * c) 5 ∙ omega (arith, le)

middle_of : (n h j k c : ℕ) → n < 32 → h ≤ 1 → c ≤ 1 → bit_and (parts n h j k + 128 * c) 128 ≡ 128 * c
middle_of n h j k c p r s =
    let upper = c + (2 * j + 4 * k) in
    let lower = n + 64 * h in
    let below : lower < 128 = omega (arith, p, r) in
    let zero_below : 0 < 128 = omega arith in
    let cut : parts n h j k + 128 * c ≡ upper * 128 + lower = omega arith in
    let blocks : bit_and (upper * 128 + lower) 128 ≡ bit_and upper 1 * 128 + bit_and lower 0 = and_block 7 upper 1 lower 0 below zero_below in
    let one : bit_and upper 1 ≡ upper % 2 = and_mask upper 1 in
    let none : bit_and lower 0 ≡ lower % 1 = and_mask lower 0 in
    let odd : upper % 2 ≡ c = omega (arith, s) in
    rw cut (rw blocks (omega (arith, one, none, odd)))

ignorable_of : (n h j k : ℕ) → n < 32 → bit_and (parts n h j k) 32 ≡ 0
ignorable_of n h j k p =
    let upper = 2 * h + (8 * j + 16 * k) in
    let zero_below : 0 < 32 = omega arith in
    let cut : parts n h j k ≡ upper * 32 + n = omega arith in
    let blocks : bit_and (upper * 32 + n) 32 ≡ bit_and upper 1 * 32 + bit_and n 0 = and_block 5 upper 1 n 0 p zero_below in
    let one : bit_and upper 1 ≡ upper % 2 = and_mask upper 1 in
    let none : bit_and n 0 ≡ n % 1 = and_mask n 0 in
    rw cut (rw blocks (omega (arith, one, none)))

marked_of : (n h j k : ℕ) → n < 32 → h ≤ 1 → j ≤ 1 → k ≤ 1 → bit_and (parts n h j k) 1024 ≡ 0
marked_of n h j k p q r s =
    let w = parts n h j k in
    let below : w < 1024 = omega (arith, p, q, r, s) in
    let zero_below : 0 < 1024 = omega arith in
    let cut : w ≡ 0 * 1024 + w = omega arith in
    let blocks : bit_and (0 * 1024 + w) 1024 ≡ bit_and 0 1 * 1024 + bit_and w 0 = and_block 10 0 1 w 0 below zero_below in
    let one : bit_and 0 1 ≡ 0 % 2 = and_mask 0 1 in
    let none : bit_and w 0 ≡ w % 1 = and_mask w 0 in
    ap (λ x. bit_and x 1024) cut ∙ blocks ∙ omega (arith, one, none)

-- ---- of a character that is not ignorable

pub word_unmarked : (u : ℕ) → is_default_ignorable_character u ≡ false → bit_and (properties_of u) 0x400 ≡ 0
word_unmarked u e = ap (λ w. bit_and w 0x400) (word_parts u e) ∙ marked_of _ _ _ _ (category_fits (general_category u)) (at_most_one (is_hidden_character u)) (at_most_one (u == 0x200D)) (at_most_one (u == 0x200C))

pub word_shown : (u : ℕ) → is_default_ignorable_character u ≡ false → bit_and (properties_of u) 0x20 ≡ 0
word_shown u e = ap (λ w. bit_and w 0x20) (word_parts u e) ∙ ignorable_of _ _ _ _ (category_fits (general_category u))

no_bit : (w : ℕ) → w ≡ w + 128 * 0
no_bit w = omega arith

apart : (u : ℕ) → is_default_ignorable_character u ≡ false → bit_and (properties_of u) 128 ≡ 0
apart u e =
    let zero_one : 0 ≤ 1 = omega arith in
    ap (λ w. bit_and w 128) (word_parts u e ∙ no_bit _) ∙ middle_of _ _ _ _ 0 (category_fits (general_category u)) (at_most_one (is_hidden_character u)) zero_one

joined : (u : ℕ) → is_default_ignorable_character u ≡ false → bit_or (properties_of u) 128 ≡ properties_of u + 128
joined u e =
    let none = apart u e in
    let sum = or_add_and (properties_of u) 128 in
    omega (arith, none, sum)

joined_bit : (u : ℕ) → is_default_ignorable_character u ≡ false → bit_and (properties_of u + 128) 128 ≡ 128
joined_bit u e =
    let one : 1 ≤ 1 = omega arith in
    ap (λ w. bit_and (w + 128) 128) (word_parts u e) ∙ middle_of _ _ _ _ 1 (category_fits (general_category u)) (at_most_one (is_hidden_character u)) one

-- without the mark of a continuation there is the character's word
pub word_alone : (b : Bool) (u : ℕ) → is_default_ignorable_character u ≡ false → without_bits 128 (property_word_of b u) ≡ properties_of u
word_alone true u e =
    let same : bit_or (properties_of u) 128 ≡ properties_of u + 128 = joined u e in
    let bit = joined_bit u e in
    ap (λ w. w - bit_and w 128) same ∙ omega (arith, bit)
word_alone false u e = let none = apart u e in omega (arith, none)

category_low : (b : Bool) (u : ℕ) → is_default_ignorable_character u ≡ false → bit_and (property_word_of b u) 0x1F ≡ category_number (general_category u)
category_low true u e = ap (λ w. bit_and w 0x1F) (joined u e) ∙ ap (λ w. bit_and (w + 128) 0x1F) (word_parts u e) ∙ low_of _ _ _ _ 1 (category_fits (general_category u))
category_low false u e = ap (λ w. bit_and w 0x1F) (word_parts u e ∙ no_bit _) ∙ low_of _ _ _ _ 0 (category_fits (general_category u))

pub word_mark : (b : Bool) (u : ℕ) → is_default_ignorable_character u ≡ false → is_mark_number (bit_and (property_word_of b u) 0x1F) ≡ is_mark_character u
word_mark b u e = ap is_mark_number (category_low b u e) ∙ mark_numbers (general_category u)

pub word_category : (u : ℕ) → is_default_ignorable_character u ≡ false → bit_and (properties_of u) 0x1F ≡ category_number (general_category u)
word_category u e = category_low false u e
