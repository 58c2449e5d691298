use Rattle.caret_model.proofs.PenSteps.{AreCaretsTo}
use Rattle.caret_model.proofs.line.carets_of.Given as goal

abbrev pub invariant-loop-slice : goal.invariant-loop-slice
invariant-loop-slice l = AreCaretsTo l.direction l.positions l.slices l.slice-index l.at l.pen l.carets.items
