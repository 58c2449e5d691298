use Rattle.std.proofs.Common.{arith}
use Rattle.line_pieces.proofs.Filled.{counted, filling_more, last_piece, lines_whole, measured}
use Rattle.line_pieces.proofs.filling.lines_of_pieces.Goals as goal

pub add_piece-requires-clause-start : goal.add_piece-requires-clause-start
add_piece-requires-clause-start c = measured c.args.frame.direction c.args.glyphs.now c.args.frame.end c.args.frame.count c.loop-byte.start c.requires.positions c.requires.count c.requires.few c.loop-byte.invariant.filled.first

pub add_piece-requires-clause-last : goal.add_piece-requires-clause-last
add_piece-requires-clause-last c = measured c.args.frame.direction c.args.glyphs.now c.args.frame.end c.args.frame.count c.loop-byte.last c.requires.positions c.requires.count c.requires.few c.loop-byte.invariant.filled.latest

pub add_piece-requires-clause-next : goal.add_piece-requires-clause-next
add_piece-requires-clause-next c = measured c.args.frame.direction c.args.glyphs.now c.args.frame.end c.args.frame.count c.cut_at-next.result c.requires.positions c.requires.count c.requires.few c.cut_at-next.ensures.cut

pub add_piece-requires-clause-counted : goal.add_piece-requires-clause-counted
add_piece-requires-clause-counted c =
    counted c.args.frame.direction c.args.glyphs.now c.args.frame c.loop-byte.start c.loop-byte.last c.requires.positions c.requires.count c.loop-byte.invariant.filled.first c.loop-byte.invariant.filled.latest c.loop-byte.invariant.filled.ordered

pub loop-byte-preserved : goal.loop-byte-preserved
loop-byte-preserved c =
    filling_more c.args.glyphs.now c.args.frame c.args.breaks.now c.requires.positions c.requires.count c.loop-byte.start c.loop-byte.last c.cut_at-next.result c.in_ok-start.start c.loop-byte.lines.items c.add_piece.new.lines.items
    c.loop-byte.byte-index _ (omega arith) c.loop-byte.invariant c.cut_at-next.ensures.cut c.cut_at-next.ensures.byte c.in_ok-start.ensures

pub end_line-requires-clause-start : goal.end_line-requires-clause-start
end_line-requires-clause-start c = measured c.args.frame.direction c.args.glyphs.now c.args.frame.end c.args.frame.count c.loop-byte.start c.requires.positions c.requires.count c.requires.few c.loop-byte.invariant.filled.first

pub end_line-requires-clause-end : goal.end_line-requires-clause-end
end_line-requires-clause-end c = measured c.args.frame.direction c.args.glyphs.now c.args.frame.end c.args.frame.count c.loop-byte.last c.requires.positions c.requires.count c.requires.few c.loop-byte.invariant.filled.latest

pub end_line-requires-clause-counted : goal.end_line-requires-clause-counted
end_line-requires-clause-counted c =
    counted c.args.frame.direction c.args.glyphs.now c.args.frame c.loop-byte.start c.loop-byte.last c.requires.positions c.requires.count c.loop-byte.invariant.filled.first c.loop-byte.invariant.filled.latest c.loop-byte.invariant.filled.ordered

pub returns-then-last-frame : goal.returns-then-last-frame
returns-then-last-frame c =
    lines_whole c.args.glyphs.now c.args.frame c.args.breaks.now c.requires.positions c.requires.count c.loop-byte.start c.loop-byte.last c.loop-byte.lines.items c.end_line.new.lines.items c.requires.breaks
    c.loop-byte.invariant.filled (omega arith) c.in_ok-end_line.ensures

pub cut_at-next-requires-2-clause-after : goal.cut_at-next-requires-2-clause-after
cut_at-next-requires-2-clause-after c = c.loop-byte.invariant.left.within

pub add_piece-requires-2-clause-start : goal.add_piece-requires-2-clause-start
add_piece-requires-2-clause-start c = measured c.args.frame.direction c.args.glyphs.now c.args.frame.end c.args.frame.count c.loop-byte.start c.requires.positions c.requires.count c.requires.few c.loop-byte.invariant.filled.first

pub add_piece-requires-2-clause-last : goal.add_piece-requires-2-clause-last
add_piece-requires-2-clause-last c = measured c.args.frame.direction c.args.glyphs.now c.args.frame.end c.args.frame.count c.loop-byte.last c.requires.positions c.requires.count c.requires.few c.loop-byte.invariant.filled.latest

pub add_piece-requires-2-clause-next : goal.add_piece-requires-2-clause-next
add_piece-requires-2-clause-next c = measured c.args.frame.direction c.args.glyphs.now c.args.frame.end c.args.frame.count c.cut_at-next-2.result c.requires.positions c.requires.count c.requires.few c.cut_at-next-2.ensures.cut

pub add_piece-requires-2-clause-counted : goal.add_piece-requires-2-clause-counted
add_piece-requires-2-clause-counted c =
    counted c.args.frame.direction c.args.glyphs.now c.args.frame c.loop-byte.start c.loop-byte.last c.requires.positions c.requires.count c.loop-byte.invariant.filled.first c.loop-byte.invariant.filled.latest c.loop-byte.invariant.filled.ordered

pub end_line-requires-2-clause-start : goal.end_line-requires-2-clause-start
end_line-requires-2-clause-start c =
    let piece =
    last_piece c.args.glyphs.now c.args.frame c.args.breaks.now c.requires.positions c.requires.count c.loop-byte.start c.loop-byte.last c.cut_at-next-2.result c.in_ok-line_start.line_start c.loop-byte.lines.items
    c.add_piece-2.new.lines.items c.loop-byte.byte-index (omega arith) c.loop-byte.invariant (let most = c.loop-byte.invariant.left.within in omega arith) c.cut_at-next-2.ensures.cut c.cut_at-next-2.ensures.byte c.in_ok-line_start.ensures
    in
    measured c.args.frame.direction c.args.glyphs.now c.args.frame.end c.args.frame.count c.in_ok-line_start.line_start c.requires.positions c.requires.count c.requires.few piece.first

pub end_line-requires-2-clause-end : goal.end_line-requires-2-clause-end
end_line-requires-2-clause-end c = measured c.args.frame.direction c.args.glyphs.now c.args.frame.end c.args.frame.count c.cut_at-next-2.result c.requires.positions c.requires.count c.requires.few c.cut_at-next-2.ensures.cut

pub end_line-requires-2-clause-counted : goal.end_line-requires-2-clause-counted
end_line-requires-2-clause-counted c =
    let piece =
    last_piece c.args.glyphs.now c.args.frame c.args.breaks.now c.requires.positions c.requires.count c.loop-byte.start c.loop-byte.last c.cut_at-next-2.result c.in_ok-line_start.line_start c.loop-byte.lines.items
    c.add_piece-2.new.lines.items c.loop-byte.byte-index (omega arith) c.loop-byte.invariant (let most = c.loop-byte.invariant.left.within in omega arith) c.cut_at-next-2.ensures.cut c.cut_at-next-2.ensures.byte c.in_ok-line_start.ensures
    in
    counted c.args.frame.direction c.args.glyphs.now c.args.frame c.in_ok-line_start.line_start c.cut_at-next-2.result c.requires.positions c.requires.count piece.first piece.latest piece.ordered

pub returns : goal.returns
returns c =
    let piece =
    last_piece c.args.glyphs.now c.args.frame c.args.breaks.now c.requires.positions c.requires.count c.loop-byte.start c.loop-byte.last c.cut_at-next-2.result c.in_ok-line_start.line_start c.loop-byte.lines.items
    c.add_piece-2.new.lines.items c.loop-byte.byte-index (omega arith) c.loop-byte.invariant (let most = c.loop-byte.invariant.left.within in omega arith) c.cut_at-next-2.ensures.cut c.cut_at-next-2.ensures.byte c.in_ok-line_start.ensures
    in
    lines_whole c.args.glyphs.now c.args.frame c.args.breaks.now c.requires.positions c.requires.count c.in_ok-line_start.line_start c.cut_at-next-2.result c.add_piece-2.new.lines.items c.end_line-2.new.lines.items
    c.requires.breaks piece c.cut_at-next-2.ensures.byte c.in_ok-end_line-2.ensures
