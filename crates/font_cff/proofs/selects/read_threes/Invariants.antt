use Rattle.std.proofs.Common.{◌≡◌, ◌+◌, ◌*◌, ◌-◌, ◌++◌}
use Rattle.std.specs.List.{flat_map}
use Rattle.font_bytes.specs.Records.{records}
use Rattle.font_cff.specs.Selects.{range_of_three, are_selects, dicts_of}
use Rattle.font_cff.proofs.selects.read_threes.Given as goal

-- those of the ranges so far and of those that are left are all; the ranges that are left follow exactly where all follow
abbrev pub invariant-loop-index : goal.invariant-loop-index
invariant-loop-index l = record {
  all : l.selects.items ++ flat_map dicts_of (records (range_of_three l.table) 3 (l.at + 2 + 3 * l.index) (l.count - l.index)) ≡ flat_map dicts_of (records (range_of_three l.table) 3 (l.at + 2) l.count);
  order : are_selects l.first (records (range_of_three l.table) 3 (l.at + 2 + 3 * l.index) (l.count - l.index)) ≡ are_selects 0 (records (range_of_three l.table) 3 (l.at + 2) l.count);
}
