-- Single adjustment subtables (OpenType, GPOS lookup type 1).
use Rattle.std.specs.Prelude.{ℕ, ◌+◌, ◌*◌, ◌==◌, if◌then◌else◌, List, length, Option, Some, None, Result, Ok}
use Rattle.font_bytes.specs.declared.fault.TableFault.{TableFault}
use Rattle.font_bytes.specs.Results.{and_then}
use Rattle.font_bytes.specs.Words.{need, word}
use Rattle.font_common.specs.Coverage.{glyphs_in_room}
use Rattle.font_records.specs.Covered.{rows_in, rows_at}
use Rattle.layout_common.specs.declared.glyph_row.GlyphRow.{GlyphRow}
use Rattle.layout_tables.specs.declared.value.ValueRecord.{ValueRecord}
use Rattle.layout_tables.specs.declared.single_pos.SinglePos.{SinglePos}
use Rattle.font_positioning.specs.Values.{value_size, value_at}
use Rattle.font_records.specs.Turns.{some_value}

-- a subtable of rows
abbrev pub single_of : List (GlyphRow ValueRecord) → SinglePos
single_of rows = record { rows = rows }

-- ---- format 1

-- the row of a glyph: the value record of all glyphs. It has no record of its own
abbrev pub same_value_row : ValueRecord → ℕ → ℕ → ℕ → Result (Option (GlyphRow ValueRecord) × ℕ) TableFault
same_value_row value room at glyph = Ok (Some (record { glyph = glyph; value = value }), room)

-- format 1: coverageOffset at 2, valueFormat at 4, valueRecord at 6
abbrev pub single_same : ℕ → List ℕ → ℕ → Result (Option SinglePos × ℕ) TableFault
single_same room table at = and_then (need table at 6) (λ _. and_then (need table (at + 6) (value_size (word table (at + 4)))) (λ _.
    and_then (glyphs_in_room room table at (word table (at + 2))) (λ c.
    some_value single_of (rows_in (same_value_row (value_at (word table (at + 4)) table (at + 6))) 0 0 (length c.0) c.0 c.1))))

-- ---- format 2

-- the row of a glyph: its record is a value record
abbrev pub value_row : ℕ → List ℕ → ℕ → ℕ → ℕ → Result (Option (GlyphRow ValueRecord) × ℕ) TableFault
value_row format table room at glyph = Ok (Some (record { glyph = glyph; value = value_at format table at }), room)

-- format 2: coverageOffset at 2, valueFormat at 4, valueCount at 6, valueRecords at 8
abbrev pub single_each : ℕ → List ℕ → ℕ → Result (Option SinglePos × ℕ) TableFault
single_each room table at = and_then (need table at 8) (λ _.
    and_then (need table (at + 8) (value_size (word table (at + 4)) * word table (at + 6))) (λ _.
    some_value single_of (rows_at (value_row (word table (at + 4)) table) table at (word table (at + 2)) (value_size (word table (at + 4))) (at + 8) (word table (at + 6)) room)))

-- ---- both

-- a subtable by its format; one of an unknown format is left out
abbrev pub single_of_format : ℕ → ℕ → List ℕ → ℕ → Result (Option SinglePos × ℕ) TableFault
single_of_format format room table at =
    if format == 1 then single_same room table at else (if format == 2 then single_each room table at else Ok (None, room))

-- the single adjustment subtable at an offset
abbrev pub single_pos_at : ℕ → List ℕ → ℕ → Result (Option SinglePos × ℕ) TableFault
single_pos_at room table at = and_then (need table at 2) (λ _. single_of_format (word table at) room table at)
