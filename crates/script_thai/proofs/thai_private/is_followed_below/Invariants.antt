use Rattle.script_thai.proofs.Shaped.{ArePassed}
use Rattle.script_thai.proofs.thai_private.is_followed_below.Given as goal

abbrev pub invariant-loop-at : goal.invariant-loop-at
invariant-loop-at l = ArePassed l.at l.rest
