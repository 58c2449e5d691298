use Rattle.std.proofs.Common.{ℕ, ◌≡◌, false, arith, sym, subst, ◌∙◌}
use Rattle.line_pieces.specs.declared.lines.FilledLine.{FilledLine}
use Rattle.line_pieces.specs.FilledLines.{IsShapedAgain, are_safe_ends}
use Rattle.line_pieces.specs.Lines.{MayEnd}
use Rattle.line_pieces.specs.LinesInHand.{IsLineFault, IsLineTo, IsShapeFault, IsShapedTo, page_of}
use Rattle.line_pieces.proofs.Filled.{counted, measured}
use Rattle.line_pieces.proofs.LinesTaken.{if_err, if_ok, own_to, safe_ends, shape_fault, shaped_to}
use Rattle.line_pieces.proofs.Pieces.{piece_may}
use Rattle.line_pieces.proofs.shaped_lines.line_to.Goals as goal

pub own_line-requires-clause-start : goal.own_line-requires-clause-start
own_line-requires-clause-start g c = measured c.args.frame.direction c.args.glyphs.now c.args.frame.end c.args.frame.count c.args.start c.requires.page.positions c.requires.page.count c.requires.page.few c.requires.start

pub own_line-requires-clause-end : goal.own_line-requires-clause-end
own_line-requires-clause-end g c = measured c.args.frame.direction c.args.glyphs.now c.args.frame.end c.args.frame.count c.cut_at-end.result c.requires.page.positions c.requires.page.count c.requires.page.few c.cut_at-end.ensures.cut

pub own_line-requires-clause-counted : goal.own_line-requires-clause-counted
own_line-requires-clause-counted g c =
    let after = c.requires.after in
    let byte = c.piece_end-byte.ensures in
    let at = c.cut_at-end.ensures.byte in
    counted c.args.frame.direction c.args.glyphs.now c.args.frame c.args.start c.cut_at-end.result c.requires.page.positions c.requires.page.count c.requires.start c.cut_at-end.ensures.cut (omega (arith, after, byte, at))

pub returns-then-are_both_safe-clause-line : goal.returns-then-are_both_safe-clause-line
returns-then-are_both_safe-clause-line g c =
    let P : FilledLine → Type 0 = λ l. IsLineTo c.args.frame.direction (g.S.ShapesLines.IsShapedLine c.args.shaper.now) (page_of c.args.glyphs.now c.args.frame c.args.breaks.now) c.args.start.byte c.args.piece l in
    let after = c.requires.after in
    let byte = c.piece_end-byte.ensures in
    let at = c.cut_at-end.ensures.byte in
    subst P (sym c.own_line.ensures)
    (own_to (g.S.ShapesLines.IsShapedLine c.args.shaper.now) c.args.glyphs.now c.args.frame c.args.breaks.now c.args.start c.cut_at-end.result c.args.piece c.requires.page c.requires.start c.cut_at-end.ensures.cut (at ∙ byte)
    (omega (arith, after, byte, at)) (sym c.are_both_safe.ensures ∙ c.if-are_both_safe.true))

pub returns-clause-line : goal.returns-clause-line
returns-clause-line g c =
    let P : ℕ → Type 0 = λ n. are_safe_ends (page_of c.args.glyphs.now c.args.frame c.args.breaks.now) c.args.start.byte n ≡ false in
    let again = subst P c.cut_at-end.ensures.byte (safe_ends c.args.glyphs.now c.args.frame c.args.breaks.now c.args.start c.cut_at-end.result c.requires.start c.cut_at-end.ensures.cut ∙ sym c.are_both_safe.ensures ∙ c.if-are_both_safe.false) in
    let after = c.requires.after in
    let byte = c.piece_end-byte.ensures in
    if_ok c.shaped_line.result (IsShapedTo c.args.frame.direction (g.S.ShapesLines.IsShapedLine c.args.shaper.now) c.args.start.byte c.piece_end-byte.result)
    (IsLineTo c.args.frame.direction (g.S.ShapesLines.IsShapedLine c.args.shaper.now) (page_of c.args.glyphs.now c.args.frame c.args.breaks.now) c.args.start.byte c.args.piece)
    (λ l is. shaped_to c.args.frame.direction (g.S.ShapesLines.IsShapedLine c.args.shaper.now) (page_of c.args.glyphs.now c.args.frame c.args.breaks.now) c.args.start.byte c.piece_end-byte.result c.args.piece l is byte (omega (arith, after, byte)) again)
    c.shaped_line.ensures.line

pub returns-clause-fault : goal.returns-clause-fault
returns-clause-fault g c =
    let P : ℕ → Type 0 = λ n. are_safe_ends (page_of c.args.glyphs.now c.args.frame c.args.breaks.now) c.args.start.byte n ≡ false in
    let again = subst P c.cut_at-end.ensures.byte (safe_ends c.args.glyphs.now c.args.frame c.args.breaks.now c.args.start c.cut_at-end.result c.requires.start c.cut_at-end.ensures.cut ∙ sym c.are_both_safe.ensures ∙ c.if-are_both_safe.false) in
    let after = c.requires.after in
    let byte = c.piece_end-byte.ensures in
    let line : IsShapedAgain (page_of c.args.glyphs.now c.args.frame c.args.breaks.now) c.args.start.byte c.piece_end-byte.result = record {
      some = omega (arith, after, byte);
      may = subst (MayEnd (page_of c.args.glyphs.now c.args.frame c.args.breaks.now)) (sym byte) (piece_may (page_of c.args.glyphs.now c.args.frame c.args.breaks.now) c.requires.page.rising c.args.piece);
      again = again;
    } in
    if_err c.shaped_line.result (IsShapeFault (g.S.ShapesLines.IsShapedLine c.args.shaper.now) (g.S.ShapesLines.IsRefusedLine c.args.shaper.now) c.args.start.byte c.piece_end-byte.result)
    (IsLineFault (g.S.ShapesLines.IsShapedLine c.args.shaper.now) (g.S.ShapesLines.IsRefusedLine c.args.shaper.now) (page_of c.args.glyphs.now c.args.frame c.args.breaks.now))
    (λ e is. shape_fault (g.S.ShapesLines.IsShapedLine c.args.shaper.now) (g.S.ShapesLines.IsRefusedLine c.args.shaper.now) (page_of c.args.glyphs.now c.args.frame c.args.breaks.now) c.args.start.byte c.piece_end-byte.result e is line)
    c.shaped_line.ensures.fault
