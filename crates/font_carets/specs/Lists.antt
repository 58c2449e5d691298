-- The ligature caret list (OpenType, GDEF, LigCaretList table).
use Rattle.std.specs.Prelude.{ℕ, ℤ, pos, ◌+◌, ◌*◌, ◌==◌, ◌&&◌, Bool, if◌then◌else◌, List, [], Option, Result, Ok, Err}
use Rattle.font_bytes.specs.declared.fault.TableFault.{TableFault}
use Rattle.font_bytes.specs.declared.fault.TableFault.TheVariants.{Kind}
use Rattle.font_bytes.specs.Records.{records}
use Rattle.font_bytes.specs.Results.{and_then}
use Rattle.font_bytes.specs.Room.{room_after}
use Rattle.font_bytes.specs.Words.{fits, need, signed_word, word}
use Rattle.font_records.specs.Covered.{rows_at}
use Rattle.font_records.specs.Turns.{some_value}
use Rattle.font_carets.specs.declared.rows.LigatureCarets.{LigatureCarets}

-- CaretValue, by its format at 0: formats 1 and 3 have the coordinate at 2 (the device table of format 3 is for sizes in
-- pixels and other instances); format 2 names a point of the outline, for which HarfBuzz answers 0 where it has no outlines,
-- as for an unknown format
abbrev pub value_of_format : List ℕ → ℕ → ℕ → ℤ
value_of_format table at format =
    if format == 1 then signed_word table (at + 2) else (if format == 3 && fits table at 6 then signed_word table (at + 2) else pos 0)

-- the coordinate of the caret value at an offset, 0 past the table's end
abbrev pub caret_value : List ℕ → ℕ → ℤ
caret_value table at = if fits table at 4 then value_of_format table at (word table at) else pos 0

-- the coordinate of the caret value whose offset from a ligature's table is at an offset; 0 where it is null
abbrev pub caret_record : List ℕ → ℕ → ℕ → ℤ
caret_record table start at = if word table at == 0 then pos 0 else caret_value table (start + word table at)

-- LigGlyph: caretCount at 0, caretValueOffsets at 2
abbrev pub caret_array : List ℕ → ℕ → List ℤ
caret_array table at = records (caret_record table at) 2 (at + 2) (word table at)

-- whether a table has all offsets of the ligature's table at an offset
abbrev pub has_offsets : List ℕ → ℕ → Bool
has_offsets table at = fits table at 2 && fits table (at + 2) (2 * word table at)

-- the carets of the ligature's table at an offset, each of which takes a row of room; none where it ends past the end
abbrev pub ligature_at : ℕ → List ℕ → ℕ → Result (List ℤ × ℕ) TableFault
ligature_at room table at =
    if has_offsets table at then and_then (room_after room (word table at)) (λ left. Ok (caret_array table at, left)) else Ok ([], room)

-- the carets of the ligature's table at an offset from the list's start; a null offset has none
abbrev pub carets_at_offset : List ℕ → ℕ → ℕ → ℕ → Result (List ℤ × ℕ) TableFault
carets_at_offset table start room offset = if offset == 0 then Ok ([], room) else ligature_at room table (start + offset)

-- the row of a glyph: its record is the offset of a ligature's table
abbrev pub ligature_row : ℕ → List ℕ → ℕ → ℕ → ℕ → Result (Option LigatureCarets × ℕ) TableFault
ligature_row start table room at glyph = some_value (λ xs. record { glyph = glyph; carets = xs }) (carets_at_offset table start room (word table at))

-- LigCaretList: coverageOffset at 0, ligGlyphCount at 2, ligGlyphOffsets at 4, one for each glyph of the coverage
abbrev pub caret_list : ℕ → List ℕ → ℕ → Result (List LigatureCarets × ℕ) TableFault
caret_list room table at = and_then (need table at 4) (λ _. and_then (need table (at + 4) (2 * word table (at + 2))) (λ _.
    rows_at (ligature_row at table) table at (word table at) 2 (at + 4) (word table (at + 2)) room))

-- GDEF: majorVersion at 0, ligCaretListOffset at 8, in a header of twelve bytes
abbrev pub list_offset : List ℕ → Result ℕ TableFault
list_offset table = and_then (need table 0 12) (λ _. if word table 0 == 1 then Ok (word table 8) else Err (Kind 0))

-- the list at an offset, none where it is null
abbrev pub list_at : ℕ → List ℕ → ℕ → Result (List LigatureCarets × ℕ) TableFault
list_at room table at = if at == 0 then Ok ([], room) else caret_list room table at

-- the ligatures of GDEF with their carets
abbrev pub ligature_carets_at : ℕ → List ℕ → Result (List LigatureCarets × ℕ) TableFault
ligature_carets_at room table = and_then (list_offset table) (list_at room table)
