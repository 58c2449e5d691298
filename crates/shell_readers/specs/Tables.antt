-- The tables of bytes, and those that are lawful.
use Rattle.std.specs.Prelude.{ℕ, ◌≡◌, ◌⊎◌, List, [], Option, Result, Ok, Err, find}
use Rattle.std.specs.Option.{option_map_or}
use Rattle.std.specs.Str.{bytes_eq}
use Rattle.buffer_common.specs.declared.tag.Tag.{Tag}
use Rattle.buffer_tags.specs.LanguageRows.{primary_part}
use Rattle.serde_json.specs.Data.{Data}
use Rattle.shell_json.specs.declared.fault.JsonFault.{JsonFault}
use Rattle.shell_json.specs.declared.fault.JsonFault.TheVariants.{SplitDepth}
use Rattle.shell_json.specs.Cell.{and_then}
use Rattle.shell_readers.specs.declared.fault.RunFault.{RunFault}
use Rattle.shell_readers.specs.declared.fault.RunFault.TheVariants.{Unlawful}
use Rattle.shell_tables_json.specs.Languages.{Language, languages_in, languages_of}
use Rattle.shell_tables_json.specs.Syllables.{syllables_of}
use Rattle.shell_tables_json.specs.Unicode.{tables_of}
use Rattle.script_categories.specs.Machines.{Machines}
use Rattle.buffer_unicode_tables.specs.Expansion.{EndWithin, HasDeepChain}
use Rattle.buffer_unicode_tables.specs.Lawful.{IsLawful}
use Rattle.buffer_unicode_tables.specs.Tables.{Tables, split_of}
use Rattle.shell_readers.specs.declared.tables.TextTables.{TextTables}
use Rattle.shell_readers.specs.Values.{json_of, of_json, then_answers}

-- the tables that shaping depends on: of characters, the machines of syllables, and the languages with their OpenType
-- tags
pub record RunTables : Type 0 where
  pub characters : Tables
  pub syllables : Machines
  pub languages : List Language

-- the tables, without the memory that they occupy
abbrev pub tables_value : TextTables → RunTables
tables_value t = record { characters = t.characters; syllables = t.syllables; languages = languages_in t.languages }

-- where no row has a fault, refuses tables with a chain of first halves of more than eight decompositions
abbrev pub IfShallow : {A : Type 0} → Tables → (Result A JsonFault → Type 0) → Result A JsonFault → Type 0
IfShallow t Answers r = (EndWithin (split_of t) 8 × Answers r) ⊎ (HasDeepChain (split_of t) 8 × (r ≡ Err SplitDepth))

-- the machines of syllables, and then the languages
abbrev pub with_rest : Tables → Data → Result RunTables JsonFault
with_rest t d =
    and_then (syllables_of d) (λ syllables.
    and_then (languages_of d) (λ languages.
    Ok (record { characters = t; syllables = syllables; languages = languages })))

-- the tables of a JSON value: the rows from splits to Thai forms, then syllables and languages; the first fault is the
-- result
unfoldable pub IsValueOf : Data → Result RunTables JsonFault → Type 0
IsValueOf d r = then_answers (tables_of d) (λ t. IfShallow t (λ whole. whole ≡ with_rest t d)) r

-- the tables of a JSON value, or the run's fault
abbrev pub IsRunValueOf : Data → Result RunTables RunFault → Type 0
IsRunValueOf d r = (read : Result RunTables JsonFault) × IsValueOf d read × (r ≡ of_json read)

-- the tables of bytes
unfoldable pub AreTables : List ℕ → Result RunTables RunFault → Type 0
AreTables bytes r = then_answers (json_of bytes) IsRunValueOf r

-- tables that are lawful are kept, others refused
abbrev pub IfLawful : RunTables → Result RunTables RunFault → Type 0
IfLawful t r = (IsLawful t.characters × (r ≡ Ok t)) ⊎ ((¬ IsLawful t.characters) × (r ≡ Err Unlawful))

-- the lawful tables of bytes: a fault of their format, or unlawful ones, are refused
unfoldable pub AreLawfulTables : List ℕ → Result RunTables RunFault → Type 0
AreLawfulTables bytes r = (read : Result RunTables RunFault) × AreTables bytes read × then_answers read IfLawful r

-- ---- languages

-- the language with the given text, if it is in the list
abbrev pub language_of : List Language → List ℕ → Option Language
language_of languages text = find (λ (l : Language). bytes_eq l.0 text) languages

-- the OpenType tags of a language, else those of its primary subtag
abbrev pub language_tags : List Language → List ℕ → List Tag
language_tags languages text =
    option_map_or (λ (l : Language). l.1) (language_of languages text) (option_map_or (λ (l : Language). l.1) (language_of languages (primary_part text)) [])
