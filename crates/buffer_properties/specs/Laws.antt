-- Laws of the properties of every character.
use Rattle.std.specs.Prelude.{ℕ, ◌≡◌}
use Rattle.std.specs.Int.RustNames.{bit_and}
use Rattle.unicode.specs.GeneralCategory.{general_category}
use Rattle.buffer_unicode.specs.Category.{category_number}
use Rattle.buffer_properties.specs.Properties.{properties_of, text_properties_of, without_bits, CONTINUATION}

-- the low five bits of the property word are the category's number
abbrev pub LowBitsAreTheCategory : Type 0
LowBitsAreTheCategory = (u : ℕ) → bit_and (properties_of u) 0x1F ≡ category_number (general_category u)

-- the property word of a text's character without the continuation flag is that of its item
abbrev pub ContinuationLeaves : Type 0
ContinuationLeaves = (u : ℕ) → without_bits CONTINUATION (text_properties_of u) ≡ properties_of u
