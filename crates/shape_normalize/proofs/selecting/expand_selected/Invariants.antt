use Rattle.shape_normalize.proofs.Selections.{IsSelecting}
use Rattle.shape_normalize.proofs.selecting.expand_selected.Given as goal

abbrev pub invariant-loop : goal.invariant-loop
invariant-loop g l = IsSelecting (g.N.Normalizing.normalizer l.by) l.marks l.counter l.waits l.initial.buffer l.buffer
