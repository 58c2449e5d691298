use Rattle.caret_model.specs.Pens.{IsPenAt}
use Rattle.caret_model.proofs.line.pen_after.Given as goal

abbrev pub invariant-loop-i : goal.invariant-loop-i
invariant-loop-i l = IsPenAt l.direction l.positions l.i l.pen
