-- The values of the bytes of tables and of a font.
use Rattle.std.specs.Prelude.{ℕ, ◌≡◌, List, Result, Ok}
use Rattle.layout_face.specs.declared.parts.FaceParts.{FaceParts}
use Rattle.shell_face_json.specs.Face.{face_of}
use Rattle.shell_readers.specs.declared.fault.RunFault.{RunFault}
use Rattle.shell_readers.specs.declared.input.RunInput.{RunInput}
use Rattle.shell_readers.specs.Tables.{AreLawfulTables, RunTables, tables_value}
use Rattle.shell_readers.specs.Values.{json_of, of_json, then_run}

-- the tables and the font of a run
pub record RunParts : Type 0 where
  pub tables : RunTables
  pub font : FaceParts

-- the tables and the font, without the memory that they occupy
abbrev pub input_value : RunInput → RunParts
input_value input = record { tables = tables_value input.tables; font = input.face }

-- the font of bytes
unfoldable pub font_in : List ℕ → Result FaceParts RunFault
font_in bytes = then_run (json_of bytes) (λ f. of_json (face_of f))

-- tables with the font that was read from bytes
abbrev pub with_font : Result FaceParts RunFault → RunTables → Result RunParts RunFault
with_font font t = then_run font (λ face. Ok (record { tables = t; font = face }))

-- the result of reading tables and a font: tables with a fault, or unlawful ones, are refused before the font is read
unfoldable pub IsInput : List ℕ → List ℕ → Result RunParts RunFault → Type 0
IsInput tables font r = (read : Result RunTables RunFault) × AreLawfulTables tables read × (r ≡ then_run read (with_font (font_in font)))
