-- Tables in binary form.
use Rattle.std.specs.Prelude.{ℕ, ◌≡◌, ◌⊎◌, if◌then◌else◌, List, Result, Ok, Err}
use Rattle.buffer_unicode.specs.declared.fault.TablesFault.TheVariants.{SplitDepth}
use Rattle.buffer_unicode_tables.specs.Lawful.{IsLawful}
use Rattle.font_bytes.specs.Results.{and_then}
use Rattle.font_bytes.specs.Words.{fits}
use Rattle.buffer_unicode_tables.specs.Tables.{Tables}
use Rattle.script_categories.specs.Machines.{Machines}
use Rattle.shell_default_tables.specs.declared.tables.DefaultTables.{DefaultTables}
use Rattle.shell_tables_bytes.specs.declared.fault.BinaryFault.{BinaryFault}
use Rattle.shell_tables_bytes.specs.declared.fault.BinaryFault.TheVariants.{Rows, Short, Unlawful}
use Rattle.shell_tables_bytes.specs.Characters.{AreDeep, characters_of}
use Rattle.shell_tables_bytes.specs.Languages.{Language, languages_in, languages_of}
use Rattle.shell_tables_bytes.specs.Machines.{machines_of}

-- the tables that shaping depends on: of characters, the machines of syllables, and the languages with their OpenType
-- tags
pub record TablesValue : Type 0 where
  pub characters : Tables
  pub syllables : Machines
  pub languages : List Language

-- the tables, without the memory that they occupy
abbrev pub value_of_tables : DefaultTables → TablesValue
value_of_tables t = record { characters = t.characters; syllables = t.syllables; languages = languages_in t.languages }

-- the machines of syllables, and then the languages
abbrev pub with_rest : Tables → List ℕ → Result TablesValue BinaryFault
with_rest t bytes =
    and_then (machines_of bytes) (λ syllables.
    and_then (languages_of bytes) (λ languages.
    Ok (record { characters = t; syllables = syllables; languages = languages })))

-- the sections after a whole header: the tables of characters, then the others; the first fault is the result
abbrev pub sections_of : List ℕ → Result TablesValue BinaryFault
sections_of bytes = and_then (characters_of bytes) (λ t. with_rest t bytes)

-- the tables of bytes, lawful or not, whatever the length of their chains of decompositions
unfoldable pub binary_tables : List ℕ → Result TablesValue BinaryFault
binary_tables bytes = if fits bytes 0 160 then sections_of bytes else Err Short

-- why tables that are read from bytes are refused: the first fault, or a chain of first halves of more than eight
-- decompositions
abbrev pub IsFaultOf : List ℕ → Result TablesValue BinaryFault → BinaryFault → Type 0
IsFaultOf bytes read e = (read ≡ Err e) ⊎ ((e ≡ Rows SplitDepth) × AreDeep bytes)

-- tables of bytes that break a law of tables of characters
unfoldable pub AreUnlawful : List ℕ → Type 0
AreUnlawful bytes = (t : TablesValue) × (binary_tables bytes ≡ Ok t) × (¬ IsLawful t.characters)

-- why lawful tables of bytes are refused: a fault, or a law that they break
unfoldable pub IsRefusalOf : List ℕ → BinaryFault → Type 0
IsRefusalOf bytes e = IsFaultOf bytes (binary_tables bytes) e ⊎ ((e ≡ Unlawful) × AreUnlawful bytes)
