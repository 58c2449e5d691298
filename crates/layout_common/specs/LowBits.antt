-- Sets of glyphs by the low bits of their numbers.
use Rattle.std.specs.Prelude.{ℕ, ◌≡◌, ◌%◌, ◌==◌, Bool, List}
use Rattle.std.specs.List.{list_any}
use Rattle.layout_common.specs.Bits.{has_bit}

-- whether a list of 64-bit numbers has the bit whose index is the ten low bits of a glyph's number: the glyph may be in the set
abbrev pub has_low_bits : List ℕ → ℕ → Bool
has_low_bits words g = has_bit 0 words (g % 1024)

-- whether a glyph's number and that of one of some glyphs have the same ten low bits
abbrev pub shares_low_bits : List ℕ → ℕ → Bool
shares_low_bits glyphs g = list_any (λ h. h % 1024 == g % 1024) glyphs

-- a list of 64-bit numbers has the bits of some glyphs, and no others
abbrev pub IsLowBitsOf : List ℕ → List ℕ → Type 0
IsLowBitsOf words glyphs = (g : ℕ) → has_low_bits words g ≡ shares_low_bits glyphs g
