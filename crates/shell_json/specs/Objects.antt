-- The keys of an object.
use Rattle.std.specs.Prelude.{if◌then◌else◌, is_some, Option, Some, None, Result, Ok, Err}
use Rattle.serde_json.specs.Data.{Data}
use Rattle.serde_json.specs.Find.{as_object}
use Rattle.shell_json.specs.declared.fault.JsonFault.{JsonFault}
use Rattle.shell_json.specs.declared.fault.JsonFault.TheVariants.{WrongShape}
use Rattle.shell_json.specs.Cell.{and_then}

-- the value of a key as `read` reads it, or `missing` without the key
abbrev pub read_or : {A : Type 0} → A → (Data → Result A JsonFault) → Option Data → Result A JsonFault
read_or missing read None = Ok missing
read_or missing read (Some d) = read d

-- the value of a key as `read` reads it, `None` without the key
abbrev pub optional_value : {A : Type 0} → (Data → Result A JsonFault) → Option Data → Result (Option A) JsonFault
optional_value read None = Ok None
optional_value read (Some d) = and_then (read d) (λ a. Ok (Some a))

-- a value that is an object
abbrev pub of_object : {A : Type 0} → (Data → Result A JsonFault) → Data → Result A JsonFault
of_object read d = if is_some (as_object d) then read d else Err WrongShape
