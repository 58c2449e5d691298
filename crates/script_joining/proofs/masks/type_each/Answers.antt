use Rattle.std.proofs.Common.{arith}
use Rattle.buffer_stages.proofs.Loops.{next_written}
use Rattle.script_joining.specs.Glyphs.{item_typed}
use Rattle.script_joining.proofs.masks.type_each.Goals as goal

pub loop-glyph-preserved : goal.loop-glyph-preserved
loop-glyph-preserved c =
    next_written (item_typed c.args.tables.now) c.args.glyphs.now c.loop-glyph.glyphs c.loop-glyph.glyph-index _ c.keep_type.new.glyph (omega arith) (c.keep_type.ensures.item, c.keep_type.ensures.origin) c.loop-glyph.invariant
