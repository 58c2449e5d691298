use Rattle.std.proofs.Common.{arith}
use Rattle.script_myanmar.proofs.Placing.{placing_by}
use Rattle.script_myanmar.proofs.myanmar_positions.position_rest.Goals as goal

pub loop-glyph-preserved : goal.loop-glyph-preserved
loop-glyph-preserved c =
    placing_by c.loop-glyph.glyph-index c.loop-glyph.now c.loop-glyph.before c.position_of-before.result c.position_after-now.result c.args.glyphs.now c.loop-glyph.glyphs _ c.glyph_at.result (omega arith) (omega arith) c.loop-glyph.invariant
    c.position_of-before.ensures c.position_after-now.ensures c.glyph_at.ensures
