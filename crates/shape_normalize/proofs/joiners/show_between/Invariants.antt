use Rattle.shape_normalize.proofs.Shown.{IsShowing}
use Rattle.shape_normalize.proofs.joiners.show_between.Given as goal

abbrev pub invariant-loop-i : goal.invariant-loop-i
invariant-loop-i l = IsShowing l.count l.i l.before l.initial.buffer l.buffer
