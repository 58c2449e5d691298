-- Subtables that attach marks (OpenType, GPOS lookup types 4, 5 and 6).
use Rattle.std.specs.Prelude.{ℕ, ◌+◌, ◌*◌, ◌==◌, nat_lt, if◌then◌else◌, List, [], Option, Some, None, Result, Ok}
use Rattle.font_bytes.specs.declared.fault.TableFault.{TableFault}
use Rattle.font_bytes.specs.Results.{and_then}
use Rattle.font_bytes.specs.Words.{need, word}
use Rattle.font_records.specs.Turns.{array_at, some_value}
use Rattle.font_records.specs.Covered.{rows_at}
use Rattle.layout_common.specs.declared.glyph_row.GlyphRow.{GlyphRow}
use Rattle.layout_tables.specs.declared.mark.MarkRecord.{MarkRecord}
use Rattle.layout_tables.specs.declared.mark.BaseRow.{BaseRow}
use Rattle.layout_tables.specs.declared.mark.ComponentRecord.{ComponentRecord}
use Rattle.layout_tables.specs.declared.mark.LigatureRow.{LigatureRow}
use Rattle.layout_tables.specs.declared.mark.MarkBasePos.{MarkBasePos}
use Rattle.layout_tables.specs.declared.mark.MarkLigPos.{MarkLigPos}
use Rattle.font_positioning.specs.Anchors.{anchor_at, anchor_list}

-- ---- arrays of records

-- the rows of the glyphs of a coverage by an array that begins with the number of its records. A null offset of the array,
-- which counts from the subtable's start, is an empty array. How a row is read depends on where the array begins
abbrev pub array_rows : {R : Type 0} → (ℕ → ℕ → ℕ → ℕ → Result (Option R × ℕ) TableFault) → ℕ → ℕ → List ℕ → ℕ → ℕ → ℕ → Result (List R × ℕ) TableFault
array_rows row width room table start coverage offset = if offset == 0 then Ok ([], room)
    else and_then (need table (start + offset) 2) (λ _. and_then (need table (start + offset + 2) (width * word table (start + offset))) (λ _.
    rows_at (row (start + offset)) table start coverage width (start + offset + 2) (word table (start + offset)) room))

-- MarkRecord: markClass at 0, markAnchorOffset at 2, from the mark array's start. A mark whose class has no anchors has no
-- row
abbrev pub mark_row : ℕ → List ℕ → ℕ → ℕ → ℕ → ℕ → Result (Option (GlyphRow MarkRecord) × ℕ) TableFault
mark_row class_count table base room at glyph = if nat_lt (word table at) class_count
    then and_then (anchor_at base table (at + 2)) (λ a. Ok (Some (record { glyph = glyph; value = record { class = word table at; anchor = a } }), room))
    else Ok (None, room)

-- BaseRecord, Mark2Record: the offsets of an anchor for each class, from the array's start
abbrev pub base_row : ℕ → List ℕ → ℕ → ℕ → ℕ → ℕ → Result (Option BaseRow × ℕ) TableFault
base_row class_count table base room at glyph = some_value (λ anchors. record { glyph = glyph; anchors = anchors }) (anchor_list base table at class_count room)

-- ---- ligatures

-- ComponentRecord: the offsets of an anchor for each class, from the ligature attach table's start
abbrev pub component_item : ℕ → ℕ → List ℕ → ℕ → ℕ → Result (Option ComponentRecord × ℕ) TableFault
component_item class_count base table room at = some_value (λ anchors. record { anchors = anchors }) (anchor_list base table at class_count room)

-- the components of the ligature attach table at an offset: componentCount at 0, componentRecords at 2
abbrev pub component_list : ℕ → ℕ → List ℕ → ℕ → Result (List ComponentRecord × ℕ) TableFault
component_list class_count room table at = and_then (need table at 2) (λ _. and_then (need table (at + 2) (2 * class_count * word table at)) (λ _.
    array_at (component_item class_count at table) (2 * class_count) (at + 2) (word table at) room))

-- the row of a ligature: its record is the offset of a ligature attach table from the ligature array's start; a null one
-- leads to no row
abbrev pub ligature_row : ℕ → List ℕ → ℕ → ℕ → ℕ → ℕ → Result (Option LigatureRow × ℕ) TableFault
ligature_row class_count table base room at glyph = if word table at == 0 then Ok (None, room)
    else some_value (λ components. record { glyph = glyph; components = components }) (component_list class_count room table (base + word table at))

-- ---- subtables

-- format 1: the offset of the marks' coverage at 2, of the bases' or the other marks' coverage at 4, markClassCount at 6,
-- the offset of the mark array at 8, of the base array or the other marks' array at 10
abbrev pub mark_base : ℕ → List ℕ → ℕ → Result (MarkBasePos × ℕ) TableFault
mark_base room table at = and_then (need table at 12) (λ _.
    and_then (array_rows (mark_row (word table (at + 6)) table) 4 room table at (word table (at + 2)) (word table (at + 8))) (λ marks.
    and_then (array_rows (base_row (word table (at + 6)) table) (2 * word table (at + 6)) marks.1 table at (word table (at + 4)) (word table (at + 10))) (λ bases.
    Ok (record { marks = marks.0; bases = bases.0 }, bases.1))))

-- format 1: the offset of the marks' coverage at 2, of the ligatures' coverage at 4, markClassCount at 6, the offset of the
-- mark array at 8, of the ligature array at 10
abbrev pub mark_ligature : ℕ → List ℕ → ℕ → Result (MarkLigPos × ℕ) TableFault
mark_ligature room table at = and_then (need table at 12) (λ _.
    and_then (array_rows (mark_row (word table (at + 6)) table) 4 room table at (word table (at + 2)) (word table (at + 8))) (λ marks.
    and_then (array_rows (ligature_row (word table (at + 6)) table) 2 marks.1 table at (word table (at + 4)) (word table (at + 10))) (λ ligatures.
    Ok (record { marks = marks.0; ligatures = ligatures.0 }, ligatures.1))))

-- the mark to base or mark to mark attachment subtable at an offset; one of an unknown format is left out
abbrev pub mark_base_pos_at : ℕ → List ℕ → ℕ → Result (Option MarkBasePos × ℕ) TableFault
mark_base_pos_at room table at = and_then (need table at 2) (λ _.
    if word table at == 1 then some_value (λ p. p) (mark_base room table at) else Ok (None, room))

-- the mark to ligature attachment subtable at an offset; one of an unknown format is left out
abbrev pub mark_lig_pos_at : ℕ → List ℕ → ℕ → Result (Option MarkLigPos × ℕ) TableFault
mark_lig_pos_at room table at = and_then (need table at 2) (λ _.
    if word table at == 1 then some_value (λ p. p) (mark_ligature room table at) else Ok (None, room))
