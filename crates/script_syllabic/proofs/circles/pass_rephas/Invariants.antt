use Rattle.std.proofs.Common.{length}
use Rattle.script_syllabic.proofs.Underway.{ArePassed}
use Rattle.script_syllabic.proofs.circles.pass_rephas.Given as goal

-- so many rephas were passed
abbrev pub invariant-loop-rephas : goal.invariant-loop-rephas
invariant-loop-rephas l = ArePassed l.rule l.byte l.rephas l.fn.buffer l.buffer

abbrev pub decreases-loop-rephas : goal.decreases-loop-rephas
decreases-loop-rephas l = length l.buffer.ahead
