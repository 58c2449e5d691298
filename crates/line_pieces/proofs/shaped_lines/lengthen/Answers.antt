use Rattle.std.proofs.Common.{◌≡◌, ◌<◌, ◌+◌, get_or, arith, sym, ap, subst, ◌∙◌}
use Rattle.line_pieces.specs.declared.lines.FilledLine.{FilledLine}
use Rattle.line_pieces.specs.LinesInHand.{IsReached, page_of}
use Rattle.line_pieces.proofs.LinesTaken.{after_line, fits_width, piece_after, taken_at_end, taken_before, too_wide}
use Rattle.line_pieces.proofs.shaped_lines.lengthen.Goals as goal

pub line_to-requires-clause-after : goal.line_to-requires-clause-after
line_to-requires-clause-after g c = after_line c.args.frame.direction (g.S.ShapesLines.IsShapedLine c.args.shaper.now) (page_of c.args.glyphs.now c.args.frame c.args.breaks.now) c.requires.page.rising c.args.start.byte (record { line = c.loop-line.line; piece = c.loop-line.piece }) c.loop-line.invariant

pub returns-else-fits-clause-line : goal.returns-else-fits-clause-line
returns-else-fits-clause-line g c =
    taken_before c.args.frame.direction (g.S.ShapesLines.IsShapedLine c.args.shaper.now) (page_of c.args.glyphs.now c.args.frame c.args.breaks.now) c.requires.page.rising c.args.start.byte (record { line = c.loop-line.line; piece = c.loop-line.piece }) c.loop-line.invariant
    (too_wide c.args.frame.direction (g.S.ShapesLines.IsShapedLine c.args.shaper.now) (page_of c.args.glyphs.now c.args.frame c.args.breaks.now) c.args.start.byte (c.loop-line.piece + 1) c.in_ok-longer.longer c.in_ok-longer.ensures.line (sym c.fits.ensures ∙ c.if-fits.false))

pub loop-line-preserved : goal.loop-line-preserved
loop-line-preserved g c =
    let P : FilledLine → Type 0 = λ l. IsReached c.args.frame.direction (g.S.ShapesLines.IsShapedLine c.args.shaper.now) (page_of c.args.glyphs.now c.args.frame c.args.breaks.now) c.args.start.byte (record { line = l; piece = c.loop-line.piece + 1 }) in
    subst P (sym c.replace.ensures.after) (record {
      line = c.in_ok-longer.ensures.line;
      fits = fits_width c.args.frame.direction (g.S.ShapesLines.IsShapedLine c.args.shaper.now) (page_of c.args.glyphs.now c.args.frame c.args.breaks.now) c.in_ok-longer.longer (sym c.fits.ensures ∙ c.if-fits.true);
    })

pub loop-line-smaller : goal.loop-line-smaller
loop-line-smaller g c =
    let test = c.loop-line-test.true in
    let less : c.loop-line.line.end < get_or c.args.breaks.now (c.loop-line.piece + 1) c.args.frame.end =
    (piece_after c.args.frame.direction (g.S.ShapesLines.IsShapedLine c.args.shaper.now) (page_of c.args.glyphs.now c.args.frame c.args.breaks.now) c.requires.page.rising c.args.start.byte (record { line = c.loop-line.line; piece = c.loop-line.piece }) c.loop-line.invariant test).after in
    let at : c.in_ok-longer.longer.end ≡ get_or c.args.breaks.now (c.loop-line.piece + 1) c.args.frame.end = c.in_ok-longer.ensures.line.end in
    let new : c.replace.new.dest.end ≡ c.in_ok-longer.longer.end = ap (λ (l : FilledLine). l.end) c.replace.ensures.after in
    omega (arith, less, at, new, test)

pub returns-clause-line : goal.returns-clause-line
returns-clause-line g c = taken_at_end c.args.frame.direction (g.S.ShapesLines.IsShapedLine c.args.shaper.now) (page_of c.args.glyphs.now c.args.frame c.args.breaks.now) c.requires.page.rising c.args.start.byte (record { line = c.loop-line.line; piece = c.loop-line.piece }) c.loop-line.invariant c.loop-line-test.false
