-- A font file as the input of a run.
use Rattle.std.specs.Prelude.{ℕ, ◌≡◌, List, Result, Ok, Err}
use Rattle.layout_face.specs.declared.parts.FaceParts.{FaceParts}
use Rattle.buffer_unicode_tables.specs.Lawful.{IsLawful}
use Rattle.font_bytes.specs.declared.font_fault.FontFault.{FontFault}
use Rattle.font_file.specs.Face.{face_in}
use Rattle.font_file.specs.declared.parts.FontParts.{FontParts}
use Rattle.shell_default_tables.specs.Binary.{IsRefusalOf, TablesValue, binary_tables}
use Rattle.shell_default_tables.specs.declared.bytes.TheConstants.{TABLES}
use Rattle.shell_readers.specs.declared.fault.RunFault.{RunFault}
use Rattle.shell_readers.specs.declared.fault.RunFault.TheVariants.{Unlawful}
use Rattle.shell_readers.specs.Fault.{fault_of_font}
use Rattle.shell_readers.specs.Input.{RunParts, with_font}
use Rattle.shell_readers.specs.Tables.{RunTables}
use Rattle.shell_readers.specs.Values.{then_run}
use Rattle.shell_tables_bytes.specs.declared.fault.BinaryFault.{BinaryFault}

-- tables that were read in binary form, as those of a run
abbrev pub run_tables : TablesValue → RunTables
run_tables t = record { characters = t.characters; syllables = t.syllables; languages = t.languages }

-- the tables of the library's bytes, which are lawful; bytes that are refused are unlawful
abbrev pub AreLibraryTables : Result RunTables RunFault → Type 0
AreLibraryTables (Ok t) = (read : TablesValue) × (binary_tables TABLES.now ≡ Ok read) × (t ≡ run_tables read) × IsLawful t.characters
AreLibraryTables (Err e) = (e ≡ Unlawful) × (cause : BinaryFault) × IsRefusalOf TABLES.now cause

-- a font of a file, whose fault is the run's
abbrev pub of_font : Result FaceParts FontFault → Result FaceParts RunFault
of_font (Ok face) = Ok face
of_font (Err e) = Err (fault_of_font e)

-- the font with an index of a font file, of which some parts are read
abbrev pub font_of : FontParts → List ℕ → ℕ → Result FaceParts RunFault
font_of parts bytes index = of_font (face_in parts bytes index)

-- the result of reading parts of a font of a font file over the tables that the library has
unfoldable pub IsFontInput : FontParts → List ℕ → ℕ → Result RunParts RunFault → Type 0
IsFontInput parts bytes index r = (read : Result RunTables RunFault) × AreLibraryTables read × (r ≡ then_run read (with_font (font_of parts bytes index)))
