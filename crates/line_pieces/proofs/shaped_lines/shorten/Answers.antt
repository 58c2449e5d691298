use Rattle.std.proofs.Common.{ℕ, ◌≡◌, ◌+◌, ◌-◌, arith, sym, subst, ◌∙◌}
use Rattle.line_pieces.specs.FilledLines.{IsTooWide}
use Rattle.line_pieces.specs.LinesInHand.{IsFirstPiece, page_of, piece_end}
use Rattle.line_pieces.proofs.LinesTaken.{after_start, fits_piece, fits_width, taken_before, too_wide}
use Rattle.line_pieces.proofs.shaped_lines.shorten.Goals as goal

pub loop-piece-init : goal.loop-piece-init
loop-piece-init g c =
    let some = c.requires.some in
    let same : c.args.past - 1 + 1 ≡ c.args.past = omega (arith, some) in
    let P : ℕ → Type 0 = λ n. IsTooWide c.args.frame.direction (g.S.ShapesLines.IsShapedLine c.args.shaper.now) (page_of c.args.glyphs.now c.args.frame c.args.breaks.now) c.args.start.byte (piece_end (page_of c.args.glyphs.now c.args.frame c.args.breaks.now) n) in
    record { some = omega (arith, some); wide = subst P (sym same) c.requires.wide }

pub line_to-requires-clause-after : goal.line_to-requires-clause-after
line_to-requires-clause-after g c = after_start c.args.frame.direction (g.S.ShapesLines.IsShapedLine c.args.shaper.now) (page_of c.args.glyphs.now c.args.frame c.args.breaks.now) c.requires.page.rising c.args.start.byte c.args.first c.loop-piece.piece c.requires.first.after c.loop-piece.invariant.some

pub returns-then-fits-clause-line : goal.returns-then-fits-clause-line
returns-then-fits-clause-line g c =
    taken_before c.args.frame.direction (g.S.ShapesLines.IsShapedLine c.args.shaper.now) (page_of c.args.glyphs.now c.args.frame c.args.breaks.now) c.requires.page.rising c.args.start.byte (record { line = c.in_ok-line.line; piece = c.loop-piece.piece })
    (record { line = c.in_ok-line.ensures.line; fits = fits_width c.args.frame.direction (g.S.ShapesLines.IsShapedLine c.args.shaper.now) (page_of c.args.glyphs.now c.args.frame c.args.breaks.now) c.in_ok-line.line (sym c.fits.ensures ∙ c.if-fits.true) }) c.loop-piece.invariant.wide

pub loop-piece-preserved : goal.loop-piece-preserved
loop-piece-preserved g c =
    let test = c.loop-piece-test.true in
    let same : c.loop-piece.piece - 1 + 1 ≡ c.loop-piece.piece = omega (arith, test) in
    let P : ℕ → Type 0 = λ n. IsTooWide c.args.frame.direction (g.S.ShapesLines.IsShapedLine c.args.shaper.now) (page_of c.args.glyphs.now c.args.frame c.args.breaks.now) c.args.start.byte (piece_end (page_of c.args.glyphs.now c.args.frame c.args.breaks.now) n) in
    record {
      some = omega (arith, test);
      wide = subst P (sym same) (too_wide c.args.frame.direction (g.S.ShapesLines.IsShapedLine c.args.shaper.now) (page_of c.args.glyphs.now c.args.frame c.args.breaks.now) c.args.start.byte c.loop-piece.piece c.in_ok-line.line c.in_ok-line.ensures.line (sym c.fits.ensures ∙ c.if-fits.false));
    }

pub loop-piece-preserved-else-fits : goal.loop-piece-preserved-else-fits
loop-piece-preserved-else-fits g c =
    let test = c.loop-piece-test.true in
    let same : c.loop-piece.piece - 1 + 1 ≡ c.loop-piece.piece = omega (arith, test) in
    let P : ℕ → Type 0 = λ n. IsTooWide c.args.frame.direction (g.S.ShapesLines.IsShapedLine c.args.shaper.now) (page_of c.args.glyphs.now c.args.frame c.args.breaks.now) c.args.start.byte (piece_end (page_of c.args.glyphs.now c.args.frame c.args.breaks.now) n) in
    record {
      some = omega (arith, test);
      wide = subst P (sym same) (too_wide c.args.frame.direction (g.S.ShapesLines.IsShapedLine c.args.shaper.now) (page_of c.args.glyphs.now c.args.frame c.args.breaks.now) c.args.start.byte c.loop-piece.piece c.in_ok-line.line c.in_ok-line.ensures.line (sym c.fits.ensures ∙ c.if-fits.false));
    }

pub loop-piece-preserved-else-fits-2 : goal.loop-piece-preserved-else-fits-2
loop-piece-preserved-else-fits-2 g c =
    let test = c.loop-piece-test.true in
    let same : c.loop-piece.piece - 1 + 1 ≡ c.loop-piece.piece = omega (arith, test) in
    let P : ℕ → Type 0 = λ n. IsTooWide c.args.frame.direction (g.S.ShapesLines.IsShapedLine c.args.shaper.now) (page_of c.args.glyphs.now c.args.frame c.args.breaks.now) c.args.start.byte (piece_end (page_of c.args.glyphs.now c.args.frame c.args.breaks.now) n) in
    record {
      some = omega (arith, test);
      wide = subst P (sym same) (too_wide c.args.frame.direction (g.S.ShapesLines.IsShapedLine c.args.shaper.now) (page_of c.args.glyphs.now c.args.frame c.args.breaks.now) c.args.start.byte c.loop-piece.piece c.in_ok-line.line c.in_ok-line.ensures.line (sym c.fits.ensures ∙ c.if-fits.false));
    }

pub line_to-requires-2-clause-after : goal.line_to-requires-2-clause-after
line_to-requires-2-clause-after g c = after_start c.args.frame.direction (g.S.ShapesLines.IsShapedLine c.args.shaper.now) (page_of c.args.glyphs.now c.args.frame c.args.breaks.now) c.requires.page.rising c.args.start.byte c.args.first c.loop-piece.piece c.requires.first.after c.loop-piece.invariant.some

pub returns-clause-line : goal.returns-clause-line
returns-clause-line g c =
    let some = c.loop-piece.invariant.some in
    let test = c.loop-piece-test.false in
    let same : c.args.first ≡ c.loop-piece.piece = omega (arith, some, test) in
    taken_before c.args.frame.direction (g.S.ShapesLines.IsShapedLine c.args.shaper.now) (page_of c.args.glyphs.now c.args.frame c.args.breaks.now) c.requires.page.rising c.args.start.byte (record { line = c.in_ok-one.one; piece = c.loop-piece.piece })
    (record {
      line = c.in_ok-one.ensures.line;
      fits = fits_piece c.args.frame.direction (g.S.ShapesLines.IsShapedLine c.args.shaper.now) (page_of c.args.glyphs.now c.args.frame c.args.breaks.now) c.args.start.byte c.loop-piece.piece c.in_ok-one.one c.in_ok-one.ensures.line (subst (IsFirstPiece (page_of c.args.glyphs.now c.args.frame c.args.breaks.now) c.args.start.byte) same c.requires.first);
    }) c.loop-piece.invariant.wide
