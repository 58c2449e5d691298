use Rattle.std.proofs.Common.{arith, length}
use Rattle.script_myanmar.proofs.Placing.{position_step, same_position}
use Rattle.std.specs.Prelude.{replicate}
use Rattle.script_myanmar.proofs.myanmar_positions.position_all.Goals as goal

pub loop-glyph-preserved : goal.loop-glyph-preserved
loop-glyph-preserved c =
    position_step (replicate (length c.args.glyphs.now) c.args.at) c.args.glyphs.now c.loop-glyph.glyphs c.loop-glyph.glyph-index c.args.at _ c.glyph_at.result (omega arith) (omega arith) c.loop-glyph.invariant
    (same_position (length c.args.glyphs.now) c.args.at c.loop-glyph.glyph-index (omega arith)) c.glyph_at.ensures
