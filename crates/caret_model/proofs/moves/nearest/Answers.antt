use Rattle.caret_model.proofs.Nearest.{best_is_kept, nearer_is_best}
use Rattle.caret_model.proofs.moves.nearest.Goals as goal
use Rattle.caret_model.proofs.moves.nearest.Goals.{then-distance, else-distance}

pub loop-i-preserved : goal.loop-i-preserved
loop-i-preserved c = elim c.if-distance.branch [
  | then-distance w ↦ nearer_is_best _ c.args.carets.now c.loop-i.i c.loop-i.best c.if-distance.best _ c.distance.result c.distance-in-loop-i.result c.loop-i.invariant c.loop-i-test.true c.distance.ensures c.distance-in-loop-i.ensures w.if-distance.true w.best-is
  | else-distance w ↦ best_is_kept _ c.args.carets.now c.loop-i.i c.loop-i.best c.if-distance.best _ c.distance.result c.distance-in-loop-i.result c.loop-i.invariant c.loop-i-test.true c.distance.ensures c.distance-in-loop-i.ensures w.if-distance.false w.best-is
]
