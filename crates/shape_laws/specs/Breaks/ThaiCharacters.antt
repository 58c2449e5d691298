-- What the characters of two texts of Thai or Lao have to be for each to be normalized by itself.
use Rattle.std.specs.Prelude.{ℕ, ◌≡◌, ◌==◌, ◌&&◌, ◌⊎◌, ⊤, not, Bool, true, false, List, [], ◌∷◌, Option, None, Some}
use Rattle.std.specs.List.{list_any}
use Rattle.buffer_glyphs.specs.Items.{Item}
use Rattle.buffer_properties.specs.Properties.{is_mark_character}
use Rattle.buffer_unicode_tables.specs.Tables.{Tables, thai_of}
use Rattle.script_thai.specs.ThaiVowel.{is_mark_above, is_sara_am}
use Rattle.shape_laws.specs.Breaks.Characters.{characters, ends_with_joiner}

-- whether a character is a mark, and no vowel SARA AM
abbrev pub is_plain_mark : Item → Bool
is_plain_mark x = is_mark_character x.number && not (is_sara_am x)

-- after its first character a text has a mark, or such a vowel where the first character is no mark above
abbrev pub IsMarkedText : List Item → Type 0
IsMarkedText [] = ⊥
IsMarkedText (x ∷ xs) = (list_any is_plain_mark xs ≡ true) ⊎ ((is_mark_above x ≡ false) × (list_any is_sara_am xs ≡ true))

-- a text has no mark and no such vowel
abbrev pub IsUnmarkedText : List Item → Type 0
IsUnmarkedText xs = (list_any (λ (x : Item). is_mark_character x.number) xs ≡ false) × (list_any is_sara_am xs ≡ false)

-- a text of Thai or Lao may be broken into two texts as far as normalizing is concerned: both have marks or neither has, and
-- the earlier one doesn't end with U+034F
pub record MayBreakThai (earlier later : List Item) : Type 0 where
  pub marks : (IsMarkedText earlier × IsMarkedText later) ⊎ (IsUnmarkedText earlier × IsUnmarkedText later)
  pub ends : ends_with_joiner false (characters earlier) ≡ false

-- the private forms of a character, where it has some, are no U+034F; where the character is no mark, they are none
abbrev pub PrivateKeepsMarks : ℕ → Option (ℕ × ℕ) → Type 0
PrivateKeepsMarks u None = ⊤
PrivateKeepsMarks u (Some (v, w)) = (((v == 0x34F) ≡ false) × ((w == 0x34F) ≡ false)) × (is_mark_character u ≡ false → (is_mark_character v ≡ false) × (is_mark_character w ≡ false))

-- the private forms of each character keep marks so
abbrev pub KeepsPrivateMarks : Tables → Type 0
KeepsPrivateMarks t = (u action : ℕ) → PrivateKeepsMarks u (thai_of t u action)
