use Rattle.std.proofs.Common.{◌≡◌, ◌++◌, None}
use Rattle.font_common.specs.Rows.{first_rows}
use Rattle.font_kern.proofs.order.rising_only.Given as goal

-- the records so far, and those that are kept of what is left, are all that are kept
abbrev pub invariant-loop-row : goal.invariant-loop-row
invariant-loop-row g l =
    l.kept.items ++ first_rows g.R.Key.Ord.cmp g.R.Keyed.key_of l.before l.row-iterator.rest.items
    ≡ first_rows g.R.Key.Ord.cmp g.R.Keyed.key_of None l.fn.rows.items
