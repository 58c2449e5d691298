use Rattle.std.proofs.Common.{◌≡◌, ◌++◌, length, map, take, drop}
use Rattle.c_lines.proofs.rows.write_rows.Given as goal

-- the first ones are written
abbrev pub invariant-loop-k : goal.invariant-loop-k
invariant-loop-k g l = (l.room ≡ take l.k (map g.T.Row.form_of l.fn.rows) ++ drop l.k l.fn.room) × (length l.room ≡ length l.fn.room)
