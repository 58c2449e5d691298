-- The relations between a run and the bytes of its readers.
use Rattle.std.specs.Prelude.{ℕ, ⊤, Bool, true, false, ◌&&◌, List, Option, Some, None, take}
use Rattle.std.specs.Io.KnownBytes.{Appends}
use Rattle.shell_readers.specs.declared.fault.RunFault.{RunFault}
use Rattle.shell_readers.specs.declared.fault.RunFault.TheVariants.{Line, OutOfMemory, Write}
use Rattle.shell_readers.specs.declared.options.Options.{Options}
use Rattle.shell_run.specs.Lines.{Answer}

-- a proposition on the bytes that three readers have left, where these are known
abbrev pub OnKnown : Option (List ℕ) → Option (List ℕ) → Option (List ℕ) → (List ℕ → List ℕ → List ℕ → Type 0) → Type 0
OnKnown (Some a) (Some b) (Some c) P = P a b c
OnKnown (Some a) (Some b) None P = ⊤
OnKnown (Some a) None c P = ⊤
OnKnown None b c P = ⊤

-- known bytes, with a prefix of others appended
abbrev pub AppendsFront : Option (List ℕ) → Option (List ℕ) → List ℕ → Type 0
AppendsFront old new bytes = (count : ℕ) × Appends old new (take count bytes)

-- a proposition on the bytes of some answer that ends with a fault, or with none
abbrev pub SomeBytes : (Answer → Type 0) → Option RunFault → (List ℕ → Type 0) → Type 0
SomeBytes Answers fault P = (bytes : List ℕ) × Answers (record { written = bytes; fault = fault }) × P bytes

-- a proposition on the bytes of some answer
abbrev pub OfAnswer : (Answer → Type 0) → (List ℕ → Type 0) → Type 0
OfAnswer Answers P = (answer : Answer) × Answers answer × P answer.written

-- lines that are refused are named in their places
abbrev pub keeps_going : Options → Bool
keeps_going options = options.lines && options.keep_going

-- bytes may have been written before a fault: where it is one of writing, and where refused lines are named in their places
-- also where it is one of a line, or lack of memory
abbrev pub may_have_written : Options → RunFault → Bool
may_have_written options Write = true
may_have_written options (Line number fault) = keeps_going options
may_have_written options OutOfMemory = keeps_going options
may_have_written options fault = false
