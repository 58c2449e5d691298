-- Laws of every run.
use Rattle.std.specs.Prelude.{ℕ, ◌≡◌, ◌==◌, ◌-◌, Bool, true, not, if◌then◌else◌, List, [], ◌∷◌, length, slice_index, Ok}
use Rattle.std.specs.List.{flat_map, list_all}
use Rattle.shell_readers.specs.declared.options.Options.{Options}
use Rattle.layout_face.specs.declared.parts.FaceParts.{FaceParts}
use Rattle.shell_run.specs.Answer.{IsAnswer, lines_of}
use Rattle.shell_run.specs.Lines.{Answer, text_lines, with_line_feed}
use Rattle.shell_run.specs.Slices.{no_slices}
use Rattle.shell_readers.specs.Tables.{RunTables}

-- law: the empty text gives a line feed only, and where slices are requested the line `no slices` after it
abbrev pub EmptyTextGivesEmptyLine : Type 0
EmptyTextGivesEmptyLine = (options : Options) (t : RunTables) (font : FaceParts) → lines_of options t font [] ≡ Ok (10 ∷ (if options.slices then no_slices else []))

-- law: tables, a font and a text have at most one answer
abbrev pub AnswersAreOne : Type 0
AnswersAreOne = (options : Options) (tables font text : List ℕ) (r s : Answer)
    → IsAnswer options tables font text r → IsAnswer options tables font text s → r ≡ s

-- a text whose last line has a line feed, as each of the others has
abbrev pub ended_text : List ℕ → List ℕ
ended_text [] = []
ended_text (byte ∷ bytes) = if slice_index (byte ∷ bytes) (length (byte ∷ bytes) - 1) == 10 then byte ∷ bytes else with_line_feed (byte ∷ bytes)

-- no byte of a line is a line feed
abbrev pub has_no_line_feed : List ℕ → Bool
has_no_line_feed line = list_all (λ byte. not (byte == 10)) line

-- the lines of a text: none has a line feed, and each followed by one they are the text, with one at its end
pub record AreLinesOf (text : List ℕ) (lines : List (List ℕ)) : Type 0 where
  pub cut : list_all has_no_line_feed lines ≡ true
  pub whole : flat_map with_line_feed lines ≡ ended_text text

-- law: every text has its lines
abbrev pub TextsHaveLines : Type 0
TextsHaveLines = (text : List ℕ) → AreLinesOf text (text_lines text)
