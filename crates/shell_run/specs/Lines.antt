-- The lines of a text, and what a run over them gives.
use Rattle.std.specs.Prelude.{ℕ, ⊤, ◌==◌, suc, if◌then◌else◌, Bool, List, [], ◌∷◌, ◌++◌, Option, Some, None, Result, Ok, Err, codes}
use Rattle.std.specs.List.{flat_map}
use Rattle.shell_readers.specs.declared.fault.LineFault.TheVariants as line
use Rattle.shell_readers.specs.declared.fault.RunFault.{RunFault}
use Rattle.shell_readers.specs.declared.fault.RunFault.TheVariants as run
use Rattle.shell_readers.specs.Fault.{name_of}

-- ---- lines

-- a byte at the front of the first line of a text
abbrev pub onto_line : ℕ → List (List ℕ) → List (List ℕ)
onto_line byte [] = (byte ∷ []) ∷ []
onto_line byte (line ∷ lines) = (byte ∷ line) ∷ lines

-- the lines of a text: each line feed ends one, and the bytes after the last line feed are one, where there are any
abbrev pub text_lines : List ℕ → List (List ℕ)
text_lines [] = []
text_lines (byte ∷ bytes) = if byte == 10 then [] ∷ text_lines bytes else onto_line byte (text_lines bytes)

-- a line with its line feed
abbrev pub with_line_feed : List ℕ → List ℕ
with_line_feed line = line ++ 10 ∷ []

-- ---- what a run gives

-- the bytes that a run writes, and the fault that it ends with, if there is one
pub record Answer : Type 0 where
  pub written : List ℕ
  pub fault : Option RunFault

-- a fault before which nothing is written
abbrev pub refusal : RunFault → Answer
refusal fault = record { written = []; fault = Some fault }

-- an answer without a fault
abbrev pub printed_answer : List ℕ → Answer
printed_answer bytes = record { written = bytes; fault = None }

-- what one text gives: its printed lines, or its fault
abbrev pub answer_of_text : Result (List ℕ) RunFault → Answer
answer_of_text (Ok printed) = printed_answer printed
answer_of_text (Err fault) = refusal fault

-- the fault of a result, if it is one
abbrev pub fault_of : {A : Type 0} → Result A RunFault → Option RunFault
fault_of (Ok value) = None
fault_of (Err fault) = Some fault

-- a fault of one text
abbrev pub IsOfText : RunFault → Type 0
IsOfText run.NotUtf8 = ⊤
IsOfText (run.Shape cause) = ⊤
IsOfText fault = ⊥

-- a fault of a line
abbrev pub IsOfLine : RunFault → Type 0
IsOfLine (run.Line number fault) = ⊤
IsOfLine fault = ⊥

-- a text's fault as that of the line with a number
abbrev pub in_line : ℕ → RunFault → RunFault
in_line number run.NotUtf8 = run.Line number line.NotUtf8
in_line number (run.Shape cause) = run.Line number (line.Shape cause)
in_line number fault = fault

-- the fault of the first line that is refused; the first of these lines has the given number
abbrev pub first_fault : ℕ → List (Result (List ℕ) RunFault) → Option RunFault
first_fault number [] = None
first_fault number (Ok printed ∷ answers) = first_fault (suc number) answers
first_fault number (Err fault ∷ answers) = Some (in_line number fault)

-- what stands for a line: its printed lines, or where it is refused `! ` and the name of its fault
abbrev pub printed_or_named : Result (List ℕ) RunFault → List ℕ
printed_or_named (Ok printed) = printed
printed_or_named (Err fault) = codes "! " ++ with_line_feed (name_of fault)

-- what lines give that end with the first that is refused: nothing is written then
abbrev pub up_to_fault : Option RunFault → List ℕ → Answer
up_to_fault None written = printed_answer written
up_to_fault (Some fault) written = refusal fault

-- what the lines of a text give, by whether the refused ones are named in their places and the others printed
abbrev pub answer_of_lines : Bool → List (Result (List ℕ) RunFault) → Answer
answer_of_lines keeps_going answers =
    if keeps_going then record { written = flat_map printed_or_named answers; fault = first_fault 1 answers }
    else up_to_fault (first_fault 1 answers) (flat_map printed_or_named answers)
