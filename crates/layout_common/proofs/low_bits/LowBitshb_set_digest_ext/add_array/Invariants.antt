use Rattle.std.proofs.Common.{take}
use Rattle.layout_common.specs.LowBits.{shares_low_bits}
use Rattle.layout_common.proofs.LowBits.{AddsLow}
use Rattle.layout_common.proofs.low_bits.LowBitshb_set_digest_ext.add_array.Given as goal

-- the glyphs so far were added
abbrev pub invariant-loop-glyph : goal.invariant-loop-glyph
invariant-loop-glyph l = AddsLow (shares_low_bits (take l.glyph-index l.glyphs)) l.fn.self.words l.self.words
