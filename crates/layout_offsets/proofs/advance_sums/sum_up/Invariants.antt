use Rattle.layout_offsets.proofs.Lemmas.Summing.{IsSumming}
use Rattle.layout_offsets.proofs.advance_sums.sum_up.Given as goal

abbrev pub invariant-loop-i : goal.invariant-loop-i
invariant-loop-i l = IsSumming l.fn.positions l.i l.pen l.positions
