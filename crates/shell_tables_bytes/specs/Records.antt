-- The records of the sections. A character is a uint24, any other number a uint8.
use Rattle.std.specs.Prelude.{ℕ, zero, suc, ◌+◌, ◌*◌, List, [], ◌∷◌}
use Rattle.font_bytes.specs.Words.{byte, word, triple}
use Rattle.script_categories.specs.declared.machine.Accept.{Accept}
use Rattle.script_categories.specs.declared.machine.Step.{Step}
use Rattle.shell_tables_bytes.specs.declared.records.Run.{Run}

-- two characters: mirror images, vertical forms, the first and the last one of a range
abbrev pub two_characters : List ℕ → ℕ → List ℕ
two_characters bytes at = triple bytes at ∷ triple bytes (at + 3) ∷ []

-- three characters: one and its two halves, two and their composite
abbrev pub three_characters : List ℕ → ℕ → List ℕ
three_characters bytes at = triple bytes at ∷ triple bytes (at + 3) ∷ triple bytes (at + 6) ∷ []

-- a character, its Indic syllabic category and its position
abbrev pub indic_record : List ℕ → ℕ → List ℕ
indic_record bytes at = triple bytes at ∷ byte bytes (at + 3) ∷ byte bytes (at + 4) ∷ []

-- a Thai character, an action, and the two characters that replace it by the action
abbrev pub thai_record : List ℕ → ℕ → List ℕ
thai_record bytes at = triple bytes at ∷ byte bytes (at + 3) ∷ triple bytes (at + 4) ∷ triple bytes (at + 7) ∷ []

-- a run of characters of one number: the first one's plane (uint8) and its number within it (uint16), how many there are
-- (uint16), the number
abbrev pub run_record : List ℕ → ℕ → Run
run_record bytes at = record { plane = byte bytes at; first = word bytes (at + 1); count = word bytes (at + 3); number = byte bytes (at + 5) }

-- the rows of `count` characters in turn, each with a number
abbrev pub run_rows : ℕ → ℕ → ℕ → List (List ℕ)
run_rows first zero number = []
run_rows first (suc count) number = (first ∷ number ∷ []) ∷ run_rows (first + 1) count number

-- the rows of a run
abbrev pub rows_of_run : Run → List (List ℕ)
rows_of_run r = run_rows (r.plane * 65536 + r.first) r.count r.number

-- a transition of a machine: a state, a category, the next state
abbrev pub step_record : List ℕ → ℕ → Step
step_record bytes at = record { state = byte bytes at; category = byte bytes (at + 1); next = byte bytes (at + 2) }

-- an accepting state and the kind of syllable that ends in it
abbrev pub accept_record : List ℕ → ℕ → Accept
accept_record bytes at = record { state = byte bytes at; kind = byte bytes (at + 1) }
