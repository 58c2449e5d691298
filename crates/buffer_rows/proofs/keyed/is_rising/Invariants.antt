use Rattle.std.proofs.Common.{◌≡◌, None, drop}
use Rattle.buffer_rows.specs.Keys.{is_rising}
use Rattle.buffer_rows.proofs.keyed.is_rising.Given as goal

-- what is left rises after the key before it exactly if all rise
abbrev pub invariant-loop-row : goal.invariant-loop-row
invariant-loop-row g l = is_rising g.R.Key.Ord.cmp g.R.Keyed.key_of None l.rows ≡ is_rising g.R.Key.Ord.cmp g.R.Keyed.key_of l.before (drop l.row-index l.rows)
