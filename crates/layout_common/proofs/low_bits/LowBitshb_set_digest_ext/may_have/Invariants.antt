use Rattle.layout_common.proofs.LowBits.{AreApartTo}
use Rattle.layout_common.proofs.low_bits.LowBitshb_set_digest_ext.may_have.Given as goal

-- the words so far have no bit in common
abbrev pub invariant-loop-i : goal.invariant-loop-i
invariant-loop-i l = AreApartTo l.i l.self.words l.other.words
