use Rattle.std.proofs.Common.{◌≡◌, ◌++◌, drop}
use Rattle.std.specs.Prelude.{None}
use Rattle.font_common.specs.Rows.{first_rows}
use Rattle.font_common.proofs.rows.without_doubles.Given as goal

-- the rows so far and the first rows of those that are left are all
abbrev pub invariant-loop-row : goal.invariant-loop-row
invariant-loop-row g l = l.firsts.items ++ first_rows g.R.Key.Ord.cmp g.R.Keyed.key_of l.before (drop l.row-index l.rows) ≡ first_rows g.R.Key.Ord.cmp g.R.Keyed.key_of None l.rows
