use Rattle.layout_common.proofs.LowBits.{AreFullTo}
use Rattle.layout_common.proofs.low_bits.are_full.Given as goal

-- the words so far are full
abbrev pub invariant-loop-i : goal.invariant-loop-i
invariant-loop-i l = AreFullTo l.i l.words
