-- Laws of the readers.
use Rattle.std.specs.Prelude.{ℕ, ◌≡◌, List, Result, Ok}
use Rattle.shell_readers.specs.declared.fault.RunFault.{RunFault}
use Rattle.layout_face.specs.declared.parts.FaceParts.{FaceParts}
use Rattle.shell_readers.specs.Input.{IsInput, RunParts, font_in, with_font}
use Rattle.shell_readers.specs.Tables.{AreLawfulTables, RunTables}

-- law: tables and a font have at most one result
abbrev pub InputsAreOne : Type 0
InputsAreOne = (tables font : List ℕ) (r s : Result RunParts RunFault) → IsInput tables font r → IsInput tables font s → r ≡ s

-- law: a font that is read after lawful tables were is, with them, what reading both gives
abbrev pub FontsJoinTables : Type 0
FontsJoinTables = (tables font : List ℕ) (t : RunTables) → AreLawfulTables tables (Ok t) → IsInput tables font (with_font (font_in font) t)
