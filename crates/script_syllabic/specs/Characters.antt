-- The compositions of characters for the shapers of syllables.
use Rattle.std.specs.Prelude.{ℕ, if◌then◌else◌, Option, None}
use Rattle.buffer_properties.specs.Properties.{is_mark_character}
use Rattle.buffer_unicode_tables.specs.Tables.{Tables, pair_of}

-- the composition of two characters, the first of which is no mark
abbrev pub unmarked_pair : Tables → ℕ → ℕ → Option ℕ
unmarked_pair t a b = if is_mark_character a then None else pair_of t a b
