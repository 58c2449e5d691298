-- Ligature substitution subtables (OpenType, GSUB lookup type 4).
use Rattle.std.specs.Prelude.{ℕ, ◌+◌, ◌-◌, ◌*◌, ◌==◌, if◌then◌else◌, List, [], Option, Some, None, Result, Ok}
use Rattle.font_bytes.specs.declared.fault.TableFault.{TableFault}
use Rattle.font_bytes.specs.Results.{and_then}
use Rattle.font_bytes.specs.Words.{need, word}
use Rattle.font_records.specs.Turns.{array_at, some_value}
use Rattle.font_records.specs.Covered.{rows_at}
use Rattle.layout_tables.specs.Layout.{LigatureTable, LigatureSetTable}
use Rattle.font_substitution.specs.Glyphs.{glyph_list}

-- the ligature table at an offset: ligatureGlyph at 0, componentCount at 2, the components after the first from 4 on. A
-- ligature without components is none
abbrev pub ligature_table : ℕ → List ℕ → ℕ → Result (Option LigatureTable × ℕ) TableFault
ligature_table room table at = and_then (need table at 4) (λ _. if word table (at + 2) == 0 then Ok (None, room)
    else some_value (λ gs. record { components = gs; glyph = word table at }) (glyph_list room table (at + 4) (word table (at + 2) - 1)))

-- the ligature of a record of a set: the offset of a ligature table from the set's start; a null one leads to none
abbrev pub ligature_item : ℕ → List ℕ → ℕ → ℕ → Result (Option LigatureTable × ℕ) TableFault
ligature_item start table room at = if word table at == 0 then Ok (None, room) else ligature_table room table (start + word table at)

-- the ligatures of the ligature set table at an offset: ligatureCount at 0, then the offsets
abbrev pub ligature_list : ℕ → List ℕ → ℕ → Result (List LigatureTable × ℕ) TableFault
ligature_list room table at = and_then (need table at 2) (λ _. and_then (need table (at + 2) (2 * word table at)) (λ _.
    array_at (ligature_item at table) 2 (at + 2) (word table at) room))

-- the ligatures of a set, whose offset counts from the subtable's start; a null offset is an empty set
abbrev pub set_ligatures : List ℕ → ℕ → ℕ → ℕ → Result (List LigatureTable × ℕ) TableFault
set_ligatures table start room offset = if offset == 0 then Ok ([], room) else ligature_list room table (start + offset)

-- the set of a first glyph: its record is the offset of a ligature set table
abbrev pub set_row : ℕ → List ℕ → ℕ → ℕ → ℕ → Result (Option LigatureSetTable × ℕ) TableFault
set_row start table room at glyph = some_value (λ ls. record { first = glyph; ligatures = ls }) (set_ligatures table start room (word table at))

-- format 1: coverageOffset at 2, ligatureSetCount at 4, then the offsets
abbrev pub ligature_sets : ℕ → List ℕ → ℕ → Result (List LigatureSetTable × ℕ) TableFault
ligature_sets room table at = and_then (need table at 6) (λ _. and_then (need table (at + 6) (2 * word table (at + 4))) (λ _.
    rows_at (set_row at table) table at (word table (at + 2)) 2 (at + 6) (word table (at + 4)) room))

-- the ligature substitution subtable at an offset; one of an unknown format is left out
abbrev pub ligature_subst_at : ℕ → List ℕ → ℕ → Result (Option (List LigatureSetTable) × ℕ) TableFault
ligature_subst_at room table at = and_then (need table at 2) (λ _.
    if word table at == 1 then some_value (λ sets. sets) (ligature_sets room table at) else Ok (None, room))
