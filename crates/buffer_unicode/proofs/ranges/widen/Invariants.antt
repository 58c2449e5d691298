use Rattle.std.proofs.Common.{◌≡◌, ◌++◌, drop}
use Rattle.buffer_unicode.specs.Ranges.{widened_ranges}
use Rattle.buffer_unicode.proofs.ranges.widen.Given as goal

abbrev pub invariant-loop-row : goal.invariant-loop-row
invariant-loop-row l = l.wide.items ++ widened_ranges l.reach (drop l.row-index l.rows) ≡ widened_ranges 0 l.rows
