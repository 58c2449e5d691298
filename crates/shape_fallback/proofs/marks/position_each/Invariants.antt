use Rattle.shape_fallback.proofs.Placed.{OnTheWay}
use Rattle.shape_fallback.proofs.marks.position_each.Given as goal

abbrev pub invariant-loop-i : goal.invariant-loop-i
invariant-loop-i l = OnTheWay l.face l.by l.i l.count l.before l.fn.buffer l.buffer
