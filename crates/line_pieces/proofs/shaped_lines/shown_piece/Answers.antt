use Rattle.std.proofs.Common.{◌≤◌, ◌<◌, ◌+◌, get_or, arith}
use Rattle.line_pieces.specs.LinesInHand.{page_of}
use Rattle.line_pieces.proofs.Filled.{measured}
use Rattle.line_pieces.proofs.Pieces.{next_piece, pieces_rise}
use Rattle.line_pieces.proofs.shaped_lines.shown_piece.Goals as goal

pub cut_at-next-requires-clause-after : goal.cut_at-next-requires-clause-after
cut_at-next-requires-clause-after c =
    let rise : get_or c.args.breaks.now c.loop-last.piece c.args.frame.end ≤ get_or c.args.breaks.now (c.loop-last.piece + 1) c.args.frame.end =
    pieces_rise (page_of c.args.glyphs.now c.args.frame c.args.breaks.now) c.requires.page.rising c.loop-last.piece (c.loop-last.piece + 1) (omega arith) in
    let at = c.loop-last.invariant.at in
    let next = c.piece_end-end-in-loop-last.ensures in
    omega (arith, rise, at, next)

pub stays-requires-clause-start : goal.stays-requires-clause-start
stays-requires-clause-start c = measured c.args.frame.direction c.args.glyphs.now c.args.frame.end c.args.frame.count c.args.start c.requires.page.positions c.requires.page.count c.requires.page.few c.requires.start

pub stays-requires-clause-next : goal.stays-requires-clause-next
stays-requires-clause-next c = measured c.args.frame.direction c.args.glyphs.now c.args.frame.end c.args.frame.count c.cut_at-next.result c.requires.page.positions c.requires.page.count c.requires.page.few c.cut_at-next.ensures.cut

pub loop-last-smaller : goal.loop-last-smaller
loop-last-smaller c =
    let at = c.loop-last.invariant.at in
    let test = c.loop-last-test.true in
    let less : get_or c.args.breaks.now c.loop-last.piece c.args.frame.end < get_or c.args.breaks.now (c.loop-last.piece + 1) c.args.frame.end =
    (next_piece (page_of c.args.glyphs.now c.args.frame c.args.breaks.now) c.requires.page.rising c.loop-last.piece (omega (arith, at, test))).after in
    let next = c.piece_end-end-in-loop-last.ensures in
    let byte = c.cut_at-next.ensures.byte in
    omega (arith, less, at, test, next, byte)
