use Rattle.shape_normalize.proofs.Kept.{IsCounting}
use Rattle.shape_normalize.proofs.kept_runs.count_marks.Given as goal

abbrev pub invariant-loop-i : goal.invariant-loop-i
invariant-loop-i l = IsCounting l.from l.i l.buffer.ahead
