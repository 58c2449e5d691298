use Rattle.std.proofs.Common.{◌≡◌, ◌≤◌, ◌+◌, ◌*◌, ◌-◌, ◌++◌, length}
use Rattle.font_bytes.specs.Records.{records}
use Rattle.font_positioning.specs.Pairs.{pair_size, pair_values}
use Rattle.font_positioning.proofs.classes.read_class2_records.Given as goal

-- the records so far and those that are left are all; these are within the bytes
abbrev pub invariant-loop-index : goal.invariant-loop-index
invariant-loop-index l = record {
  within : l.at + pair_size l.format.first l.format.second * (l.count - l._index) ≤ length l.table;
  all : l.records.items ++ records (pair_values l.format.first l.format.second l.table) (pair_size l.format.first l.format.second) l.at (l.count - l._index)
      ≡ records (pair_values l.format.first l.format.second l.table) (pair_size l.format.first l.format.second) l.fn.at l.count;
}
