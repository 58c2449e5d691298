-- The carets of ligatures of a font file.
use Rattle.std.specs.Prelude.{ℕ, List, [], Option, Some, None, Result, Ok, Err}
use Rattle.font_bytes.specs.declared.fault.TableFault.{TableFault}
use Rattle.font_bytes.specs.declared.table_names.FontTable.TheVariants.{Gdef}
use Rattle.font_bytes.specs.Directory.{table_of}
use Rattle.font_bytes.specs.Tables.{tag_of_table}
use Rattle.font_carets.specs.declared.rows.LigatureCarets.{LigatureCarets}
use Rattle.font_carets.specs.Lists.{ligature_carets_at}

-- how many rows a list may have: ligatures and carets
abbrev pub caret_room : ℕ
caret_room = 1048576

-- what was read of a list, none where that was refused
abbrev pub read_or_none : Result (List LigatureCarets × ℕ) TableFault → List LigatureCarets
read_or_none (Ok read) = read.0
read_or_none (Err e) = []

-- the ligatures of GDEF, none where the font has no such table
abbrev pub carets_in : Result (Option (List ℕ)) TableFault → List LigatureCarets
carets_in (Ok (Some table)) = read_or_none (ligature_carets_at caret_room table)
carets_in (Ok None) = []
carets_in (Err e) = []

-- the ligatures of the font with an index of a font file
abbrev pub ligature_carets : List ℕ → ℕ → List LigatureCarets
ligature_carets bytes index = carets_in (table_of bytes index (tag_of_table Gdef))
