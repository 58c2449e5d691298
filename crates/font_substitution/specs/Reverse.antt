-- Reverse chaining single substitution subtables (OpenType, GSUB lookup type 8).
use Rattle.std.specs.Prelude.{ℕ, ◌+◌, ◌*◌, ◌==◌, if◌then◌else◌, List, [], Option, Some, None, Result, Ok}
use Rattle.font_bytes.specs.declared.fault.TableFault.{TableFault}
use Rattle.font_bytes.specs.Results.{and_then}
use Rattle.font_bytes.specs.Words.{need, word}
use Rattle.font_common.specs.Coverage.{coverage_at}
use Rattle.font_common.specs.Offsets.{list_at}
use Rattle.font_records.specs.Covered.{rows_at}
use Rattle.layout_common.specs.declared.glyph_row.GlyphRow.{GlyphRow}
use Rattle.layout_tables.specs.declared.reverse.ReverseChainSubst.{ReverseChainSubst}
use Rattle.font_records.specs.Turns.{some_value}
use Rattle.font_substitution.specs.Single.{substitute_row}

-- the rows: glyphCount at an offset, substituteGlyphIDs after it
abbrev pub reverse_rows : ℕ → List ℕ → ℕ → ℕ → Result (List (GlyphRow ℕ) × ℕ) TableFault
reverse_rows room table start at = and_then (need table at 2) (λ _. and_then (need table (at + 2) (2 * word table at)) (λ _.
    rows_at (substitute_row table) table start (word table (start + 2)) 2 (at + 2) (word table at) room))

-- format 1: coverageOffset at 2, backtrackGlyphCount at 4 and the offsets of coverages, lookaheadGlyphCount and the offsets
-- of coverages, glyphCount and substituteGlyphIDs
abbrev pub reverse_chain : ℕ → List ℕ → ℕ → Result (ReverseChainSubst × ℕ) TableFault
reverse_chain room table at = and_then (need table at 6) (λ _.
    and_then (list_at [] coverage_at table at (at + 4) room) (λ back. let ahead_at = at + 6 + 2 * word table (at + 4) in
    and_then (list_at [] coverage_at table at ahead_at back.1) (λ ahead.
    and_then (reverse_rows ahead.1 table at (ahead_at + 2 + 2 * word table ahead_at)) (λ rows.
    Ok (record { backtrack = back.0; lookahead = ahead.0; rows = rows.0 }, rows.1)))))

-- the reverse chaining subtable at an offset; one of an unknown format is left out
abbrev pub reverse_subst_at : ℕ → List ℕ → ℕ → Result (Option ReverseChainSubst × ℕ) TableFault
reverse_subst_at room table at = and_then (need table at 2) (λ _.
    if word table at == 1 then some_value (λ r. r) (reverse_chain room table at) else Ok (None, room))
