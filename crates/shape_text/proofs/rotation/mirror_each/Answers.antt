use Rattle.std.proofs.Common.{arith}
use Rattle.buffer_stages.proofs.Loops.{next_written}
use Rattle.shape_text.specs.Rotation.{mirrored_item}
use Rattle.shape_text.proofs.rotation.mirror_each.Goals as goal

pub loop-glyph-preserved : goal.loop-glyph-preserved
loop-glyph-preserved c =
    next_written (mirrored_item c.args.tables.now c.args.face.now c.args.mask) c.args.glyphs.now c.loop-glyph.glyphs c.loop-glyph.glyph-index _ c.mirror.new.glyph (omega arith) (c.mirror.ensures.item, c.mirror.ensures.origin c.requires)
    c.loop-glyph.invariant
