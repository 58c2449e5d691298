use Rattle.std.proofs.Common.{◌≡◌, ◌≤◌, ◌+◌, ◌*◌, ◌-◌}
use Rattle.font_bytes.specs.Records.{records}
use Rattle.font_cmap.specs.Variations.{ranges_size, itself}
use Rattle.font_cmap.proofs.variations.ranges_size.Given as goal

-- the characters so far and those of the ranges that are left are all
abbrev pub invariant-loop-index : goal.invariant-loop-index
invariant-loop-index l = record {
  all : l.size + ranges_size l.table (records itself 4 (l.at + 4 * l.index) (l.count - l.index)) ≡ ranges_size l.table (records itself 4 l.at l.count);
  few : l.size ≤ 256 * l.index;
}
