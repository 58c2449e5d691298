use Rattle.std.proofs.Common.{sym, ◌∙◌}
use Rattle.line_pieces.specs.LinesInHand.{page_of}
use Rattle.line_pieces.proofs.LinesTaken.{after_start, may_fit, may_not_fit}
use Rattle.line_pieces.proofs.shaped_lines.fill_line.Goals as goal

pub line_to-requires-clause-after : goal.line_to-requires-clause-after
line_to-requires-clause-after g c = after_start c.args.frame.direction (g.S.ShapesLines.IsShapedLine c.args.shaper.now) (page_of c.args.glyphs.now c.args.frame c.args.breaks.now) c.requires.page.rising c.args.start.byte c.args.first c.shown_piece-piece.result c.requires.first.after c.shown_piece-piece.ensures

pub lengthen-requires-clause-reached : goal.lengthen-requires-clause-reached
lengthen-requires-clause-reached g c = record {
  line = c.in_ok-line.ensures.line;
  fits = may_fit c.args.frame.direction (g.S.ShapesLines.IsShapedLine c.args.shaper.now) (page_of c.args.glyphs.now c.args.frame c.args.breaks.now) c.args.start.byte c.args.first c.shown_piece-piece.result c.in_ok-line.line c.in_ok-line.ensures.line c.requires.first (sym c.may_stay.ensures ∙ c.if-may_stay.true);
}

pub shorten-requires-clause-some : goal.shorten-requires-clause-some
shorten-requires-clause-some g c =
    (may_not_fit c.args.frame.direction (g.S.ShapesLines.IsShapedLine c.args.shaper.now) (page_of c.args.glyphs.now c.args.frame c.args.breaks.now) c.args.start.byte c.args.first c.shown_piece-piece.result c.in_ok-line.line c.in_ok-line.ensures.line c.shown_piece-piece.ensures (sym c.may_stay.ensures ∙ c.if-may_stay.false)).0

pub shorten-requires-clause-wide : goal.shorten-requires-clause-wide
shorten-requires-clause-wide g c =
    (may_not_fit c.args.frame.direction (g.S.ShapesLines.IsShapedLine c.args.shaper.now) (page_of c.args.glyphs.now c.args.frame c.args.breaks.now) c.args.start.byte c.args.first c.shown_piece-piece.result c.in_ok-line.line c.in_ok-line.ensures.line c.shown_piece-piece.ensures (sym c.may_stay.ensures ∙ c.if-may_stay.false)).1
