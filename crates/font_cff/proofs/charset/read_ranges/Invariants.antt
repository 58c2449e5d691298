use Rattle.std.proofs.Common.{◌≡◌, ◌-◌, ◌≤◌}
use Rattle.font_cff.specs.Charset.{before_sids, range_sids, all_range_sids}
use Rattle.font_cff.proofs.charset.read_ranges.Given as goal

-- the numbers so far and those of the ranges that are left are all
abbrev pub invariant-loop-index : goal.invariant-loop-index
invariant-loop-index l = record {
  all : before_sids l.sids.items (range_sids l.table l.is_wide (l.count - l.index) l.at l.left) ≡ all_range_sids l.table l.is_wide l.fn.at l.count;
  left : l.left ≤ l.count - l.index;
}
