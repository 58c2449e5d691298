use Rattle.std.proofs.Common.{to_z, w64, arith, refl}
use Rattle.line_pieces.proofs.LinesTaken.{pen_more}
use Rattle.line_pieces.proofs.shaped_lines.width_of.Goals as goal

pub loop-position-preserved : goal.loop-position-preserved
loop-position-preserved c =
    pen_more c.args.direction c.glyph_positions-position-items.result.now c.loop-position.position-index _ (to_z w64 c.loop-position.pen-bits) c.advance_along-pen.result _ c.loop-position.invariant (omega arith) (omega arith)
    c.advance_along-pen.ensures.advance c.advance_along-pen.ensures.low c.advance_along-pen.ensures.high refl
