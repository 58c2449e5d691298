use Rattle.layout_common.proofs.Indexed.{HasBitsBelow}
use Rattle.layout_common.proofs.subtables.word_at.Given as goal

-- the bits of the subtables so far
abbrev pub invariant-loop-bit : goal.invariant-loop-bit
invariant-loop-bit g l = HasBitsBelow g.S.Covers.covers l.items l.row l.bucket l.bit l.word
