-- The JSON values of bytes, with the run's faults.
use Rattle.std.specs.Prelude.{ℕ, ◌≡◌, if◌then◌else◌, List, Option, Some, None, Result, Ok, Err}
use Rattle.std.specs.Str.{is_utf8}
use Rattle.serde_json.specs.Data.{Data}
use Rattle.serde_json.specs.Read.{read}
use Rattle.shell_json.specs.declared.fault.JsonFault.{JsonFault}
use Rattle.shell_json.specs.declared.fault.JsonFault.TheVariants.{NotJson}
use Rattle.shell_readers.specs.declared.fault.RunFault.{RunFault}
use Rattle.shell_readers.specs.declared.fault.RunFault.TheVariants.{Json}
use Rattle.shell_readers.specs.Fault.{run_fault_of}

-- one step after another; the first fault is the result
abbrev pub then_run : {A B : Type 0} → Result A RunFault → (A → Result B RunFault) → Result B RunFault
then_run (Ok a) next = next a
then_run (Err e) next = Err e

-- a step whose answers are given by a relation, and one after it; a fault is the result
abbrev pub then_answers : {A B E : Type 0} → Result A E → (A → Result B E → Type 0) → Result B E → Type 0
then_answers (Ok a) Answers r = Answers a r
then_answers (Err e) Answers r = r ≡ Err e

-- the JSON value, or the run's fault of bytes that are no JSON
abbrev pub json_or_fault : Option Data → Result Data RunFault
json_or_fault None = Err (Json NotJson)
json_or_fault (Some d) = Ok d

-- the JSON value of bytes
abbrev pub json_of : List ℕ → Result Data RunFault
json_of bytes = if is_utf8 bytes then json_or_fault (read bytes) else Err (Json NotJson)

-- the result of reading a JSON value, with the run's fault
abbrev pub of_json : {A : Type 0} → Result A JsonFault → Result A RunFault
of_json (Ok a) = Ok a
of_json (Err e) = Err (run_fault_of e)
