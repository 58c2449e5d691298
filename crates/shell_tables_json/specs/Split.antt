-- Decompositions in the tables that are read from JSON.
use Rattle.std.specs.Prelude.{◌≡◌, Ok}
use Rattle.serde_json.specs.Data.{Data}
use Rattle.buffer_unicode_tables.specs.Tables.{SplitsCharacters, Tables}
use Rattle.shell_tables_json.specs.Unicode.{tables_of}

-- law: tables that are read from a JSON value decompose characters alone
abbrev pub ReadTablesSplitCharacters : Type 0
ReadTablesSplitCharacters = (d : Data) (t : Tables) → tables_of d ≡ Ok t → SplitsCharacters t
