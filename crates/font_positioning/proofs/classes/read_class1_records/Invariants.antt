use Rattle.std.proofs.Common.{◌≡◌, ◌≤◌, ◌+◌, ◌*◌, ◌-◌, ◌++◌, length}
use Rattle.font_bytes.specs.Records.{records}
use Rattle.font_positioning.specs.Pairs.{pair_size}
use Rattle.font_positioning.specs.ClassPairs.{class2_records, class1_records}
use Rattle.font_positioning.proofs.classes.read_class1_records.Given as goal

-- the records so far and those that are left are all; these are within the bytes
abbrev pub invariant-loop-index : goal.invariant-loop-index
invariant-loop-index l = record {
  within : l.at + pair_size l.format.first l.format.second * l.count2 * (l.count1 - l._index) ≤ length l.table;
  all : l.records.items ++ records (class2_records l.format.first l.format.second l.table l.count2) (pair_size l.format.first l.format.second * l.count2) l.at (l.count1 - l._index)
      ≡ class1_records l.format.first l.format.second l.table l.count1 l.count2 l.fn.at;
}
