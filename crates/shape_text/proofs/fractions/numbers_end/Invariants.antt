use Rattle.std.proofs.Common.{◌-◌, length}
use Rattle.shape_text.proofs.Digits.{After}
use Rattle.shape_text.proofs.fractions.numbers_end.Given as goal

abbrev pub invariant-loop-end : goal.invariant-loop-end
invariant-loop-end l = After l.glyphs l.at l.end

abbrev pub decreases-loop-end : goal.decreases-loop-end
decreases-loop-end l = length l.glyphs - l.end
