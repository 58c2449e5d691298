use Rattle.caret_model.proofs.Closest.{best_kept, closer_taken}
use Rattle.caret_model.proofs.moves.closest.Goals as goal
use Rattle.caret_model.proofs.moves.closest.Goals.{then-is_closer, else-is_closer}

pub loop-caret-preserved : goal.loop-caret-preserved
loop-caret-preserved c = elim c.if-is_closer.branch [
  | then-is_closer w ↦ closer_taken c.args.back c.args.byte c.args.carets.now c.loop-caret.caret-index _ c.loop-caret.best c.if-is_closer.best c.is_closer.result c.loop-caret-test.true c.loop-caret.invariant c.is_closer.ensures w.if-is_closer.true w.best-is
  | else-is_closer w ↦ best_kept c.args.back c.args.byte c.args.carets.now c.loop-caret.caret-index _ c.loop-caret.best c.if-is_closer.best c.is_closer.result c.loop-caret-test.true c.loop-caret.invariant c.is_closer.ensures w.if-is_closer.false w.best-is
]
