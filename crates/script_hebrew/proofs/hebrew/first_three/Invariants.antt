use Rattle.script_hebrew.proofs.Swapped.{NoneMet}
use Rattle.script_hebrew.proofs.hebrew.first_three.Given as goal

abbrev pub invariant-loop-at : goal.invariant-loop-at
invariant-loop-at l = NoneMet l.at l.run
