-- Pauses between GSUB stages, and their numbers in a map.
use Rattle.std.specs.Prelude.{◌≡◌, ℕ, List, [], ◌∷◌, Option, Some, find}
use Rattle.std.specs.Option.{option_map_or}
use Rattle.std.specs.Prelude.{◌==◌}
use Rattle.script_categories.specs.declared.pause.hb_script_pause_t.{hb_script_pause_t}
use Rattle.script_categories.specs.declared.pause.hb_script_pause_t.TheVariants.{RecordStch, SetupSyllables, ReorderKhmer, ReorderMyanmar, ClearSyllables, ClearSubstitutionFlags, RecordRphf, RecordPref, ReorderUse, InitialReordering, FinalReordering}

-- the number of a pause in a map
abbrev pub pause_number : hb_script_pause_t → ℕ
pause_number RecordStch = 1
pause_number SetupSyllables = 2
pause_number ReorderKhmer = 3
pause_number ReorderMyanmar = 4
pause_number ClearSyllables = 5
pause_number ClearSubstitutionFlags = 6
pause_number RecordRphf = 7
pause_number RecordPref = 8
pause_number ReorderUse = 9
pause_number InitialReordering = 10
pause_number FinalReordering = 11

-- the pauses in the order of their numbers
abbrev pub all_pauses : List hb_script_pause_t
all_pauses =
    RecordStch ∷
    SetupSyllables ∷
    ReorderKhmer ∷
    ReorderMyanmar ∷
    ClearSyllables ∷
    ClearSubstitutionFlags ∷
    RecordRphf ∷
    RecordPref ∷
    ReorderUse ∷
    InitialReordering ∷
    FinalReordering ∷
    []

-- the number of a stage's end, 0 without a pause
abbrev pub number_of_pause : Option hb_script_pause_t → ℕ
number_of_pause p = option_map_or pause_number p 0

-- the pause of a number, none for 0 and for other numbers
abbrev pub pause_of_number : ℕ → Option hb_script_pause_t
pause_of_number n = find (λ p. pause_number p == n) all_pauses

-- law: the pause of a pause's number is that pause
abbrev pub NumbersLeadBack : Type 0
NumbersLeadBack = (p : hb_script_pause_t) → pause_of_number (pause_number p) ≡ Some p
