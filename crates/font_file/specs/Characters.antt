-- The glyphs of characters, and of characters with variation selectors (OpenType, chapter 5, cmap).
use Rattle.std.specs.Prelude.{ℕ, List, [], Option, Some, None, Result, Ok}
use Rattle.layout_face.specs.declared.parts.CharacterRow.{CharacterRow}
use Rattle.layout_face.specs.declared.parts.VariationRow.{VariationRow}
use Rattle.font_bytes.specs.declared.fault.TableFault.{TableFault}
use Rattle.font_bytes.specs.declared.font_fault.FontFault.{FontFault}
use Rattle.font_bytes.specs.declared.table_names.FontTable.TheVariants.{Cmap}
use Rattle.font_bytes.specs.Fault.{in_table}
use Rattle.font_bytes.specs.Results.{and_then}
use Rattle.font_cmap.specs.Characters.{characters_at}
use Rattle.font_cmap.specs.Variations.{variations_at}
use Rattle.font_file.specs.Found.{table_in}
use Rattle.font_file.specs.Rooms.{character_room}

-- the rows of characters, and those of characters with selectors
abbrev pub Characters : Type 0
Characters = List CharacterRow × List VariationRow

-- the rows of a table, in the room for characters and variants
abbrev pub rows_of_table : List ℕ → Result Characters TableFault
rows_of_table table =
    and_then (characters_at character_room table) (λ cmap.
    and_then (variations_at cmap.1 table cmap.0) (λ variants.
    Ok (cmap.0, variants.0)))

-- the rows of a font, none without the table
abbrev pub rows_of : Option (List ℕ) → Result Characters FontFault
rows_of None = Ok ([], [])
rows_of (Some table) = in_table (Some Cmap) (rows_of_table table)

-- the characters of the font with an index
abbrev pub characters_in : List ℕ → ℕ → Result Characters FontFault
characters_in bytes index = and_then (table_in bytes index Cmap) rows_of
