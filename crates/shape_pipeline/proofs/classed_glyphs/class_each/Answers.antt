use Rattle.std.proofs.Common.{arith}
use Rattle.buffer_stages.proofs.Loops.{next_written}
use Rattle.shape_pipeline.specs.Glyphs.{as_classed_glyph}
use Rattle.shape_pipeline.proofs.classed_glyphs.class_each.Goals as goal

pub loop-glyph-preserved : goal.loop-glyph-preserved
loop-glyph-preserved c = record {
  written =
      next_written (as_classed_glyph c.args.face.now) c.args.glyphs.now c.loop-glyph.glyphs c.loop-glyph.glyph-index _ c.class_glyph.new.glyph
      (omega arith) (c.class_glyph.ensures.item, c.class_glyph.ensures.origin) c.loop-glyph.invariant.written;
  known = c.class_glyph.ensures.known;
}
