use Rattle.buffer_core.proofs.Counted.{counted_step, next_cluster}
use Rattle.std.proofs.Common.{◌∙◌}
use Rattle.buffer_core.proofs.buffer.numbering.number_each.Goals as goal

pub loop-glyph-preserved : goal.loop-glyph-preserved
loop-glyph-preserved c =
    let inv = c.loop-glyph.invariant in
    record {
      glyphs = counted_step c.args.glyphs.now c.loop-glyph.glyphs c.loop-glyph.glyph-index c.loop-glyph.cluster _ c.loop-glyph-test.true inv.glyphs inv.next;
      next = c.saturating_add-cluster.ensures ∙ next_cluster c.loop-glyph.glyph-index c.loop-glyph.cluster inv.next;
    }
