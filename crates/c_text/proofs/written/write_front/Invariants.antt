use Rattle.std.proofs.Common.{◌≡◌, ◌++◌, length, map, take, drop}
use Rattle.c_text.proofs.written.write_front.Given as goal

-- the first ones are written
abbrev pub invariant-loop-k : goal.invariant-loop-k
invariant-loop-k g l = (l.room ≡ take l.k (map g.T.Written.form_of l.fn.items) ++ drop l.k l.fn.room) × (length l.room ≡ length l.fn.room)
