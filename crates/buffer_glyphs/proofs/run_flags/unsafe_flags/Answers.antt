use Rattle.std.proofs.Common.{refl}
use Rattle.buffer_glyphs.proofs.RunFlags.{unsafe_begins, unsafe_ends, unsafe_more}
use Rattle.buffer_glyphs.proofs.run_flags.unsafe_flags.Goals as goal

pub loop-glyph-init : goal.loop-glyph-init
loop-glyph-init c = unsafe_begins _

pub loop-glyph-preserved : goal.loop-glyph-preserved
loop-glyph-preserved c = unsafe_more c.args.cluster c.loop-glyph.flags c.flags_if_unsafe-flags.result c.loop-glyph.glyph-index c.args.glyphs.now _ _ c.flags_if_unsafe-flags.ensures refl c.loop-glyph-test.true c.loop-glyph.invariant

pub returns : goal.returns
returns c = unsafe_ends c.args.cluster c.loop-glyph.flags c.loop-glyph.glyph-index c.args.glyphs.now c.loop-glyph-test.false c.loop-glyph.invariant
