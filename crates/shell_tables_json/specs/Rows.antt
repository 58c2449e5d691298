-- Rows of a list whose keys rise strictly, and names of numbers.
use Rattle.std.specs.Prelude.{ℕ, List, None, Result}
use Rattle.std.specs.Option.{ok_or}
use Rattle.serde_json.specs.Data.{Data}
use Rattle.shell_json.specs.declared.fault.JsonFault.{JsonFault}
use Rattle.shell_json.specs.declared.fault.JsonFault.TheVariants.{UnknownName}
use Rattle.shell_json.specs.Cell.{and_then}
use Rattle.shell_json.specs.Items.{list_at, text}
use Rattle.shell_json.specs.Rows.{rows_after}
use Rattle.script_categories.specs.Names.{number_of}
use Rattle.buffer_unicode.specs.Keys.{follows}

-- the rows under a key, ordered by pairs of numbers, the more significant first
abbrev pub rows_at : {R : Type 0} → List ℕ → (R → ℕ) → (R → ℕ) → (Data → Result R JsonFault) → Data → Result (List R) JsonFault
rows_at key high low row d = and_then (list_at key d) (rows_after (follows high low) (λ r. r) row None)

-- the number of a name, else a fault
abbrev pub number_named : List (List ℕ × ℕ) → List ℕ → Result ℕ JsonFault
number_named names name = ok_or (number_of names name) UnknownName

-- a value that is one of the names
abbrev pub number_of_name : List (List ℕ × ℕ) → Data → Result ℕ JsonFault
number_of_name names d = and_then (text d) (number_named names)
