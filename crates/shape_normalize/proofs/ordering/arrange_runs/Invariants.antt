use Rattle.shape_normalize.proofs.Runs.{IsOrdering}
use Rattle.shape_normalize.proofs.ordering.arrange_runs.Given as goal

abbrev pub invariant-loop-i : goal.invariant-loop-i
invariant-loop-i g l = IsOrdering (g.N.Normalizing.normalizer l.by).reorders l.count l.i l.start l.initial.buffer l.buffer
