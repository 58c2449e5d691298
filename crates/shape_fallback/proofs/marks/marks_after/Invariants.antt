use Rattle.std.proofs.Common.{◌-◌, length}
use Rattle.shape_fallback.proofs.Counted.{Passed}
use Rattle.shape_fallback.proofs.marks.marks_after.Given as goal

abbrev pub invariant-loop-end : goal.invariant-loop-end
invariant-loop-end l = Passed l.glyphs l.at l.end

abbrev pub decreases-loop-end : goal.decreases-loop-end
decreases-loop-end l = length l.glyphs - l.end
