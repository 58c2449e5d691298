-- The characters of the encodings symbol and Mac Roman.
use Rattle.std.specs.Prelude.{ℕ, ◌+◌, ◌==◌, if◌then◌else◌, List, ◌++◌}
use Rattle.std.specs.List.{flat_map}
use Rattle.layout_face.specs.declared.parts.CharacterRow.{CharacterRow}
use Rattle.buffer_rows.specs.Keys.{row_of}
use Rattle.font_cmap.specs.declared.encodings.Encoding.{Encoding}
use Rattle.font_cmap.specs.declared.encodings.Encoding.TheVariants.{Symbol, Unicode, Roman}
use Rattle.font_cmap.specs.Roman.{upper_codes}
use Rattle.font_cmap.specs.declared.ranges.RangeArray.{RangeArray}
use Rattle.font_cmap.specs.Rows.{character_row, rows_in, rows_of, ranges_of, glyph_of_row}

-- ---- rows

-- the glyph of a number by its row, 0 where it has none
abbrev pub row_glyph : List CharacterRow → ℕ → ℕ
row_glyph rows c = glyph_of_row (row_of (λ r. r.character) c rows)

-- ---- symbol

-- the glyph of a character below U+0100, by the glyphs of a subtable: its own one, else that of U+F000 and as many more
abbrev pub symbol_glyph : (ℕ → ℕ) → ℕ → ℕ
symbol_glyph glyph c = if glyph c == 0 then glyph (61440 + c) else glyph c

-- the rows of a symbol subtable: those below U+0100 by its rows, then those of its ranges from there on
unfoldable pub symbol_rows : List ℕ → RangeArray → List CharacterRow → List CharacterRow
symbol_rows table a rows = rows_in (symbol_glyph (row_glyph rows)) 0 256 ++ rows_of table 256 (ranges_of table a)

-- ---- Mac Roman

-- the row of a character by the glyph of its code
abbrev pub roman_row : List CharacterRow → ℕ × ℕ → List CharacterRow
roman_row rows p = character_row p.0 (row_glyph rows p.1)

-- the rows of a subtable of Mac Roman: codes below 128 are their characters, and the others have a table
unfoldable pub roman_rows : List CharacterRow → List CharacterRow
roman_rows rows = rows_in (row_glyph rows) 0 128 ++ flat_map (roman_row rows) upper_codes

-- ---- all

-- the rows of characters by the ranges of a subtable and its rows
abbrev pub encoded_rows : List ℕ → RangeArray → Encoding → List CharacterRow → List CharacterRow
encoded_rows table a Symbol rows = symbol_rows table a rows
encoded_rows table a Unicode rows = rows
encoded_rows table a Roman rows = roman_rows rows
