use Rattle.std.proofs.Common.{◌≡◌, ◌≤◌, ◌+◌, ◌*◌, ◌-◌, length, drop}
use Rattle.font_bytes.specs.Records.{records}
use Rattle.font_records.proofs.Covered.{rows_from}
use Rattle.font_positioning.specs.Pairs.{set_rows, pairs_in}
use Rattle.font_positioning.proofs.pair_sets.read_pairs.Given as goal

-- the rows so far, and those of the glyphs and offsets that are left, are all; these offsets are within the bytes
abbrev pub invariant-loop-index : goal.invariant-loop-index
invariant-loop-index l = record {
  within : l.at + 2 * (l.count - l.index) ≤ length l.table;
  all : pairs_in l.format.first l.format.second l.start l.table l.fn.at l.count l.glyphs l.fn.room.left
      ≡ rows_from (set_rows l.format.first l.format.second l.start l.table) l.rows.items l.room.left l.least (drop l.index l.glyphs) (records (λ o. o) 2 l.at (l.count - l.index));
}
