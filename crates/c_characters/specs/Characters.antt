-- Characters of code units, each in its cluster (Unicode, 3.9).
use Rattle.std.specs.Prelude.{ℕ, ◌≡◌, ◌+◌, if◌then◌else◌, nat_lt, List, [], ◌∷◌, map, Option, Some, None, unwrap_or}
use Rattle.std.specs.Char.Utf16.{lone_unit_char, utf16_chars}
use lib.Utf8.{scalar}
use Rattle.c_characters.specs.declared.characters.Encoding.{Encoding}
use Rattle.c_characters.specs.declared.characters.Encoding.TheVariants.{Utf16, Utf32, Characters}
use Rattle.c_characters.specs.Units.{units_16, units_32}

-- a character of a text and the number of its cluster
pub record TextCharacter : Type 0 where
  pub character : ℕ
  pub cluster : ℕ

-- the character that takes the place of what is none (Unicode, 3.9, U+FFFD substitution)
abbrev pub replacement : ℕ
replacement = 0xFFFD

-- how many code units a character has in UTF-16 (D91): two above U+FFFF, and one where a surrogate has no partner
abbrev pub utf16_length : Option ℕ → ℕ
utf16_length None = 1
utf16_length (Some c) = if nat_lt c 0x1_0000 then 1 else 2

-- characters of UTF-16, from an index of a unit on: each in the cluster of its first unit's index, U+FFFD for a surrogate
-- without a partner
abbrev pub utf16_from : ℕ → List (Option ℕ) → List TextCharacter
utf16_from at [] = []
utf16_from at (o ∷ os) = record { character = unwrap_or o replacement; cluster = at } ∷ utf16_from (at + utf16_length o) os

-- a unit where it is a scalar value (D76), else U+FFFD
abbrev pub scalar_or_replacement : ℕ → ℕ
scalar_or_replacement u = if scalar u then u else replacement

-- characters of UTF-32 (D90), from an index of a unit on: each in the cluster of its unit's index
abbrev pub utf32_from : ℕ → List ℕ → List TextCharacter
utf32_from at [] = []
utf32_from at (u ∷ us) = record { character = scalar_or_replacement u; cluster = at } ∷ utf32_from (at + 1) us

-- characters that are each followed by its cluster's number
abbrev pub clustered_characters : List ℕ → List TextCharacter
clustered_characters [] = []
clustered_characters (u ∷ []) = []
clustered_characters (u ∷ k ∷ us) = record { character = scalar_or_replacement u; cluster = k } ∷ clustered_characters us

-- a unit of UTF-16 makes no pair with the next one
abbrev pub IsLone : ℕ → List ℕ → Type 0
IsLone u us = utf16_chars (u ∷ us) ≡ lone_unit_char u ∷ utf16_chars us

-- the characters that bytes have in an encoding, from an index of a unit on
abbrev pub characters_from : Encoding → ℕ → List ℕ → List TextCharacter
characters_from Utf16 at bytes = utf16_from at (utf16_chars (units_16 bytes))
characters_from Utf32 at bytes = utf32_from at (units_32 bytes)
characters_from Characters at bytes = clustered_characters (units_32 bytes)

-- the characters of a text in an encoding, each in its cluster
abbrev pub characters_of : Encoding → List ℕ → List TextCharacter
characters_of encoding bytes = characters_from encoding 0 bytes

-- the encoding of the texts around a text
abbrev pub encoding_around : Encoding → Encoding
encoding_around Utf16 = Utf16
encoding_around Utf32 = Utf32
encoding_around Characters = Utf32

-- the characters of bytes in an encoding, from an index of a unit on, without clusters
abbrev pub scalars_from : Encoding → ℕ → List ℕ → List ℕ
scalars_from encoding at bytes = map (λ c. c.character) (characters_from encoding at bytes)

-- the characters of bytes in an encoding, without clusters
abbrev pub scalars_of : Encoding → List ℕ → List ℕ
scalars_of encoding bytes = scalars_from encoding 0 bytes
