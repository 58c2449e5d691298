-- Single substitution subtables (OpenType, GSUB lookup type 1).
use Rattle.std.specs.Prelude.{ℕ, ◌+◌, ◌*◌, ◌%◌, ◌^◌, ◌==◌, if◌then◌else◌, List, length, Option, Some, None, Result, Ok}
use Rattle.font_bytes.specs.declared.fault.TableFault.{TableFault}
use Rattle.font_bytes.specs.Results.{and_then}
use Rattle.font_bytes.specs.Words.{need, word}
use Rattle.font_common.specs.Coverage.{glyphs_in_room}
use Rattle.font_records.specs.Covered.{rows_in, rows_at}
use Rattle.layout_common.specs.declared.glyph_row.GlyphRow.{GlyphRow}
use Rattle.layout_tables.specs.declared.single_subst.SingleSubst.{SingleSubst}
use Rattle.font_records.specs.Turns.{some_value}

-- a subtable of rows
abbrev pub single_of : List (GlyphRow ℕ) → SingleSubst
single_of rows = record { rows = rows }

-- ---- format 1

-- the row of a glyph: the substitute is the glyph plus deltaGlyphID, modulo 65536. It has no record
abbrev pub delta_row : ℕ → ℕ → ℕ → ℕ → Result (Option (GlyphRow ℕ) × ℕ) TableFault
delta_row delta room at glyph = Ok (Some (record { glyph = glyph; value = (glyph + delta) % 65536 }), room)

-- format 1: coverageOffset at 2, deltaGlyphID at 4
abbrev pub single_delta : ℕ → List ℕ → ℕ → Result (Option SingleSubst × ℕ) TableFault
single_delta room table at = and_then (need table at 6) (λ _. and_then (glyphs_in_room room table at (word table (at + 2))) (λ c.
    some_value single_of (rows_in (delta_row (word table (at + 4))) 0 0 (length c.0) c.0 c.1)))

-- ---- format 2

-- the row of a glyph: its substitute is the record
abbrev pub substitute_row : List ℕ → ℕ → ℕ → ℕ → Result (Option (GlyphRow ℕ) × ℕ) TableFault
substitute_row table room at glyph = Ok (Some (record { glyph = glyph; value = word table at }), room)

-- format 2: coverageOffset at 2, glyphCount at 4, substituteGlyphIDs at 6
abbrev pub single_listed : ℕ → List ℕ → ℕ → Result (Option SingleSubst × ℕ) TableFault
single_listed room table at = and_then (need table at 6) (λ _. and_then (need table (at + 6) (2 * word table (at + 4))) (λ _.
    some_value single_of (rows_at (substitute_row table) table at (word table (at + 2)) 2 (at + 6) (word table (at + 4)) room)))

-- ---- both

-- a subtable by its format; one of an unknown format is left out
abbrev pub single_of_format : ℕ → ℕ → List ℕ → ℕ → Result (Option SingleSubst × ℕ) TableFault
single_of_format format room table at =
    if format == 1 then single_delta room table at else (if format == 2 then single_listed room table at else Ok (None, room))

-- the single substitution subtable at an offset
abbrev pub single_subst_at : ℕ → List ℕ → ℕ → Result (Option SingleSubst × ℕ) TableFault
single_subst_at room table at = and_then (need table at 2) (λ _. single_of_format (word table at) room table at)
