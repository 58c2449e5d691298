use Rattle.layout_offsets.proofs.Lemmas.Summing.{IsParting}
use Rattle.layout_offsets.proofs.advance_sums.take_apart.Given as goal

abbrev pub invariant-loop-i : goal.invariant-loop-i
invariant-loop-i l = IsParting l.fn.positions l.i l.pen l.positions
