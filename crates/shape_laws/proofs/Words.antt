-- The property words of the characters of a text, with and without the bit of a continuation.
use Rattle.std.proofs.Common.{ℕ, ◌≡◌, ◌≤◌, ◌+◌, ◌-◌, ◌*◌, ◌%◌, Bool, true, false, refl, sym, ap, ◌∙◌, arith}
use Rattle.std.proofs.lemmas.Nat.{and_mask}
use Rattle.std.specs.Int.RustNames.{bit_and, bit_or}
use Rattle.std.specs.Int.Bits.{or_add_and}
use Rattle.unicode.specs.GeneralCategory.{general_category}
use Rattle.buffer_unicode.specs.Character.{is_default_ignorable_character}
use Rattle.buffer_unicode_tables.specs.Tables.{Tables}
use Rattle.buffer_glyphs.specs.Items.{Item}
use Rattle.buffer_properties.specs.Properties.{is_hidden_character, is_mark_character, properties_of, without_bits}
use Rattle.buffer_properties.specs.Characters.{is_mark_number}
use Rattle.buffer_properties.proofs.PropertyWords.{category_fits}
use Rattle.buffer_properties.proofs.Classes.{mark_of_character}
use Rattle.buffer_properties.proofs.Words.{at_most_one, middle_bit, word_of}
use Rattle.shape_text.specs.Properties.{property_word_of}

-- of a word with the bit of a continuation, or without it
continued : (u c : ℕ) → c ≤ 1 → bit_and (properties_of u + 128 * c) 128 ≡ 128 * c
continued u c s =
    ap (λ w. bit_and (w + 128 * c) 128) (word_of u)
    ∙ middle_bit _ _ _ c _ _ (category_fits (general_category u)) (at_most_one (is_default_ignorable_character u)) (at_most_one (is_hidden_character u)) s

alone : (u : ℕ) → bit_and (properties_of u) 128 ≡ 0
alone u = let zero_one : 0 ≤ 1 = omega arith in let same : properties_of u ≡ properties_of u + 128 * 0 = omega arith in ap (λ w. bit_and w 128) same ∙ continued u 0 zero_one

with_bit : (u : ℕ) → bit_or (properties_of u) 128 ≡ properties_of u + 128 * 1
with_bit u =
    let none = alone u in
    let sum = or_add_and (properties_of u) 128 in
    omega (arith, none, sum)

-- without the bit of a continuation there is the character's word
pub word_alone : (b : Bool) (u : ℕ) → without_bits 128 (property_word_of b u) ≡ properties_of u
word_alone true u =
    let one : 1 ≤ 1 = omega arith in
    let bit = continued u 1 one in
    ap (λ w. w - bit_and w 128) (with_bit u) ∙ omega (arith, bit)
word_alone false u = let none = alone u in omega (arith, none)

low_bits : (w : ℕ) → bit_and (w + 128 * 1) 0x1F ≡ bit_and w 0x1F
low_bits w =
    let more : bit_and (w + 128 * 1) 0x1F ≡ (w + 128 * 1) % 32 = and_mask (w + 128 * 1) 5 in
    let less : bit_and w 0x1F ≡ w % 32 = and_mask w 5 in
    let same : (w + 128 * 1) % 32 ≡ w % 32 = omega arith in
    more ∙ (same ∙ sym less)

low_word : (b : Bool) (u : ℕ) → bit_and (property_word_of b u) 0x1F ≡ bit_and (properties_of u) 0x1F
low_word true u = ap (λ w. bit_and w 0x1F) (with_bit u) ∙ low_bits (properties_of u)
low_word false u = refl

-- the word says whether the character is a combining mark
pub word_mark : (t : Tables) (x : Item) (b : Bool) (u : ℕ) → is_mark_number (bit_and (property_word_of b u) 0x1F) ≡ is_mark_character u
word_mark t x b u = ap is_mark_number (low_word b u) ∙ mark_of_character t u x
