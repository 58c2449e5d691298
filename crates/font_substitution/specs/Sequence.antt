-- Multiple and alternate substitution subtables (OpenType, GSUB lookup types 2 and 3).
use Rattle.std.specs.Prelude.{ℕ, ◌+◌, ◌*◌, ◌==◌, if◌then◌else◌, List, [], Option, Some, None, Result, Ok}
use Rattle.font_bytes.specs.declared.fault.TableFault.{TableFault}
use Rattle.font_bytes.specs.Results.{and_then}
use Rattle.font_bytes.specs.Words.{need, word}
use Rattle.font_records.specs.Covered.{rows_at}
use Rattle.layout_tables.specs.declared.sequence.SequenceRow.{SequenceRow}
use Rattle.layout_tables.specs.declared.sequence.MultipleSubst.{MultipleSubst}
use Rattle.layout_tables.specs.declared.sequence.AlternateSubst.{AlternateSubst}
use Rattle.font_substitution.specs.Glyphs.{counted_glyphs}
use Rattle.font_records.specs.Turns.{some_value}

-- a subtable of rows
abbrev pub multiple_of : List SequenceRow → MultipleSubst
multiple_of rows = record { rows = rows }

-- a subtable of rows
abbrev pub alternate_of : List SequenceRow → AlternateSubst
alternate_of rows = record { rows = rows }

-- the glyphs of a sequence table (glyphCount at 0, substituteGlyphIDs at 2) or of an alternate set (glyphCount at 0,
-- alternateGlyphIDs at 2), whose offset counts from the subtable's start; a null offset is an empty table
abbrev pub sequence_glyphs : List ℕ → ℕ → ℕ → ℕ → Result (List ℕ × ℕ) TableFault
sequence_glyphs table start room offset = if offset == 0 then Ok ([], room) else counted_glyphs room table (start + offset)

-- the row of a glyph: its record is the offset of a sequence table, or of an alternate set
abbrev pub sequence_row : ℕ → List ℕ → ℕ → ℕ → ℕ → Result (Option SequenceRow × ℕ) TableFault
sequence_row start table room at glyph = some_value (λ gs. record { glyph = glyph; glyphs = gs }) (sequence_glyphs table start room (word table at))

-- the rows of format 1: coverageOffset at 2, sequenceCount or alternateSetCount at 4, then the offsets
abbrev pub sequence_rows : ℕ → List ℕ → ℕ → Result (List SequenceRow × ℕ) TableFault
sequence_rows room table at = and_then (need table at 6) (λ _. and_then (need table (at + 6) (2 * word table (at + 4))) (λ _.
    rows_at (sequence_row at table) table at (word table (at + 2)) 2 (at + 6) (word table (at + 4)) room))

-- the multiple substitution subtable at an offset; one of an unknown format is left out
abbrev pub multiple_subst_at : ℕ → List ℕ → ℕ → Result (Option MultipleSubst × ℕ) TableFault
multiple_subst_at room table at = and_then (need table at 2) (λ _.
    if word table at == 1 then some_value multiple_of (sequence_rows room table at) else Ok (None, room))

-- the alternate substitution subtable at an offset; one of an unknown format is left out
abbrev pub alternate_subst_at : ℕ → List ℕ → ℕ → Result (Option AlternateSubst × ℕ) TableFault
alternate_subst_at room table at = and_then (need table at 2) (λ _.
    if word table at == 1 then some_value alternate_of (sequence_rows room table at) else Ok (None, room))
