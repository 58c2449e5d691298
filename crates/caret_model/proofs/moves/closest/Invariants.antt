use Rattle.std.proofs.Common.{take}
use Rattle.caret_model.specs.Moves.{IsClosest}
use Rattle.caret_model.proofs.moves.closest.Given as goal

abbrev pub invariant-loop-caret : goal.invariant-loop-caret
invariant-loop-caret l = IsClosest l.back l.byte (take l.caret-index l.carets) l.best
