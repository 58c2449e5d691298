use Rattle.std.proofs.Common.{◌≡◌, ◌++◌, drop}
use Rattle.font_kern.specs.Scripts.{rows_among}
use Rattle.font_kern.proofs.scripts.append_rows.Given as goal

-- the rows so far, and those of the scripts that are left, are all
abbrev pub invariant-loop-row : goal.invariant-loop-row
invariant-loop-row l = l.rows.items ++ rows_among l.scripts (drop l.row-index l.known) ≡ l.fn.rows.items ++ rows_among l.scripts l.known
