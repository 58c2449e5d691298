use Rattle.std.proofs.Common.{◌≡◌, ◌≤◌, ◌+◌, ◌*◌, ◌-◌, ◌++◌, List, true, length, drop}
use Rattle.font_bytes.specs.Records.{records}
use Rattle.font_records.specs.Turns.{if_any}
use Rattle.font_records.specs.Covered.{rows_in}
use Rattle.font_records.proofs.Covered.{rows_from, rise_from}
use Rattle.font_records.proofs.rows.read_rows_of_glyphs.Given as goal

-- the rows so far, and those of the glyphs and records that are left, are all; these records are within the bytes; what
-- rises from the least glyph on may follow the rows
abbrev pub invariant-loop-index : goal.invariant-loop-index
invariant-loop-index g l = record {
  within : l.at + g.R.RowReader.width_of l.reader * (l.count - l.index) ≤ length l.table;
  all : rows_in (g.R.RowReader.row_at l.reader l.table) (g.R.RowReader.width_of l.reader) l.fn.at l.count l.glyphs l.fn.room.left
      ≡ rows_from (λ r o n. if_any (g.R.RowReader.row_at l.reader l.table r o n)) l.rows.items l.room.left l.least (drop l.index l.glyphs) (records (λ o. o) (g.R.RowReader.width_of l.reader) l.at (l.count - l.index));
  rising : (rest : List g.row.R-Row.Denot) → rise_from g.R.RowReader.glyph_of l.least rest ≡ true → rise_from g.R.RowReader.glyph_of 0 (l.rows.items ++ rest) ≡ true;
}
