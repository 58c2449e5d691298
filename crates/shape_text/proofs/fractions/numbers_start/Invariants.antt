use Rattle.shape_text.proofs.Digits.{Back}
use Rattle.shape_text.proofs.fractions.numbers_start.Given as goal

abbrev pub invariant-loop-start : goal.invariant-loop-start
invariant-loop-start l = Back l.glyphs l.at l.start

abbrev pub decreases-loop-start : goal.decreases-loop-start
decreases-loop-start l = l.start
