use Rattle.std.proofs.Common.{arith, take}
use Rattle.layout_common.specs.LowBits.{shares_low_bits}
use Rattle.layout_common.proofs.LowBits.{covered_taken, low_there}
use Rattle.layout_common.proofs.low_bits.LowBitshb_set_digest_ext.add_array.Goals as goal

pub returns-clause-added : goal.returns-clause-added
returns-clause-added c g e =
    low_there (shares_low_bits (take c.loop-glyph.glyph-index c.args.glyphs.now)) c.args.self.now.words c.loop-glyph.self.words g c.loop-glyph.invariant
    (covered_taken g c.loop-glyph.glyph-index c.args.glyphs.now (omega (arith, c.loop-glyph-test.false)) e)
