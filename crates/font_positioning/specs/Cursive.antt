-- Cursive attachment subtables (OpenType, GPOS lookup type 3).
use Rattle.std.specs.Prelude.{ℕ, ◌+◌, ◌*◌, ◌==◌, if◌then◌else◌, List, Option, Some, None, Result, Ok}
use Rattle.font_bytes.specs.declared.fault.TableFault.{TableFault}
use Rattle.font_bytes.specs.Results.{and_then}
use Rattle.font_bytes.specs.Words.{need, word}
use Rattle.font_records.specs.Covered.{rows_at}
use Rattle.layout_common.specs.declared.glyph_row.GlyphRow.{GlyphRow}
use Rattle.layout_tables.specs.declared.cursive.EntryExit.{EntryExit}
use Rattle.layout_tables.specs.declared.cursive.CursivePos.{CursivePos}
use Rattle.font_positioning.specs.Anchors.{anchor_at}
use Rattle.font_records.specs.Turns.{some_value}

-- EntryExitRecord: entryAnchorOffset at 0, exitAnchorOffset at 2, from the subtable's start
abbrev pub entry_exit : ℕ → List ℕ → ℕ → Result EntryExit TableFault
entry_exit start table at =
    and_then (anchor_at start table at) (λ entry. and_then (anchor_at start table (at + 2)) (λ exit. Ok (record { entry = entry; exit = exit })))

-- the row of a glyph
abbrev pub entry_exit_row : ℕ → List ℕ → ℕ → ℕ → ℕ → Result (Option (GlyphRow EntryExit) × ℕ) TableFault
entry_exit_row start table room at glyph = and_then (entry_exit start table at) (λ e. Ok (Some (record { glyph = glyph; value = e }), room))

-- a subtable of rows
abbrev pub cursive_of : List (GlyphRow EntryExit) → CursivePos
cursive_of rows = record { rows = rows }

-- format 1: coverageOffset at 2, entryExitCount at 4, entryExitRecords at 6
abbrev pub cursive_rows : ℕ → List ℕ → ℕ → Result (List (GlyphRow EntryExit) × ℕ) TableFault
cursive_rows room table at = and_then (need table at 6) (λ _. and_then (need table (at + 6) (4 * word table (at + 4))) (λ _.
    rows_at (entry_exit_row at table) table at (word table (at + 2)) 4 (at + 6) (word table (at + 4)) room))

-- the cursive attachment subtable at an offset; one of an unknown format is left out
abbrev pub cursive_pos_at : ℕ → List ℕ → ℕ → Result (Option CursivePos × ℕ) TableFault
cursive_pos_at room table at = and_then (need table at 2) (λ _.
    if word table at == 1 then some_value cursive_of (cursive_rows room table at) else Ok (None, room))
