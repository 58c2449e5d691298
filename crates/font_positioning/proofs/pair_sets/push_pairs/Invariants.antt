use Rattle.std.proofs.Common.{◌≡◌, ◌≤◌, ◌+◌, ◌*◌, ◌-◌, ◌++◌, ◌&&◌, length}
use Rattle.font_bytes.specs.Records.{records}
use Rattle.font_positioning.specs.Pairs.{pair_size, pair_row, pair_array, seconds_never_fall}
use Rattle.font_positioning.proofs.pair_sets.push_pairs.Given as goal

-- the rows so far and those of the records that are left are all; these records are within the bytes; what came never fell
-- and the rest never falls exactly where all never fall
abbrev pub invariant-loop-index : goal.invariant-loop-index
invariant-loop-index l = record {
  within : l.at + (2 + pair_size l.format.first l.format.second) * (l.count - l._index) ≤ length l.table;
  all : l.rows.items ++ records (pair_row l.format.first l.format.second l.table l.first) (2 + pair_size l.format.first l.format.second) l.at (l.count - l._index)
      ≡ l.fn.rows.items ++ pair_array l.format.first l.format.second l.table l.first l.fn.at l.count;
  order : (l.in_order && seconds_never_fall l.least (records (pair_row l.format.first l.format.second l.table l.first) (2 + pair_size l.format.first l.format.second) l.at (l.count - l._index)))
      ≡ seconds_never_fall 0 (pair_array l.format.first l.format.second l.table l.first l.fn.at l.count);
}
