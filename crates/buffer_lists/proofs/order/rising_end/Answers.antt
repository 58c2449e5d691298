use Rattle.buffer_lists.proofs.Known.{rising_to_next}
use Rattle.buffer_lists.proofs.order.rising_end.Goals as goal

pub loop-glyph-preserved : goal.loop-glyph-preserved
loop-glyph-preserved c = rising_to_next c.args.start c.loop-glyph.last c.args.glyphs.now c.loop-glyph.glyph-index _ c.loop-glyph-test.true c.loop-glyph.invariant c.if-glyph-last.false
