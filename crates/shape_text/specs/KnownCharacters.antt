-- What is known of a character, whatever is before it.
use Rattle.std.specs.Prelude.{ℕ, ◌≡◌, List}
use Rattle.std.specs.List.{All}
use Rattle.buffer_unicode_tables.specs.Tables.{Tables}
use Rattle.buffer_properties.specs.Properties.{character_class, properties_of, scratch_flags_of}
use Rattle.shape_text.specs.declared.known_characters.KnownCharacter.{KnownCharacter}
use Rattle.shape_text.specs.Graphemes.{is_extender}

-- the row of a character: its property word without the continuation bit, its class, the scratch flags that it sets, and
-- whether it continues any grapheme
abbrev pub known_character : Tables → ℕ → KnownCharacter
known_character t u = record { character = u; scratch_flags = scratch_flags_of u; word = properties_of u; class = character_class t u; extends = is_extender u }

-- a row is that of its character
abbrev pub IsKnown : Tables → KnownCharacter → Type 0
IsKnown t row = row ≡ known_character t row.character

-- each row is that of its character
pub record AreKnown (t : Tables) (rows : List KnownCharacter) : Type 0 where
  pub each : All (IsKnown t) rows
