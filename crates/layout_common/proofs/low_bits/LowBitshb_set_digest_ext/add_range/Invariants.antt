use Rattle.layout_common.specs.Buckets.{numbers_from}
use Rattle.layout_common.specs.LowBits.{shares_low_bits}
use Rattle.layout_common.proofs.LowBits.{AddsLow}
use Rattle.layout_common.proofs.low_bits.LowBitshb_set_digest_ext.add_range.Given as goal

-- so many glyphs of the range were added
abbrev pub invariant-loop-k : goal.invariant-loop-k
invariant-loop-k l = AddsLow (shares_low_bits (numbers_from l.first l.k)) l.fn.self.words l.self.words
