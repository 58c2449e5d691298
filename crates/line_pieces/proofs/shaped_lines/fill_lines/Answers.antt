use Rattle.std.proofs.Common.{ℤ, ◌≡◌, length, w64, subst}
use Rattle.std.specs.List.{All}
use Rattle.std.proofs.lemmas.Int.{to_z-of_z}
use Rattle.kuspveli.specs.shaping_buffer.buffer_core.Sides.{all_glyphs}
use Rattle.line_pieces.specs.FilledLines.{AreFilledLines, FitsWidth, IsFillFaultOf, IsFull}
use Rattle.line_pieces.specs.Lines.{CanBeCut, paragraph_of, same_widths}
use Rattle.line_pieces.specs.LinesInHand.{AreLinesTo, IsLineFault, page_of}
use Rattle.line_pieces.proofs.LinesTaken.{all_fit, all_full, all_lines, fill_fault, filled_page, if_err, if_ok, on_ok, page_fault}
use Rattle.line_pieces.proofs.shaped_lines.fill_lines.Goals as goal

pub returns-clause-lines : goal.returns-clause-lines
returns-clause-lines g c =
    let F : ℤ → Type 0 = λ w. c.in_ok-frame.frame ≡ record { direction = c.args.direction; count = length (all_glyphs c.args.glyphs.now); end = length c.args.text.now; widths = same_widths w } in
    let frame = subst F (to_z-of_z w64 c.args.width c.ranges.width) c.in_ok-frame.ensures.frame in
    if_ok c.lines_one_by_one.result (λ ls. AreLinesTo c.in_ok-frame.frame.direction (g.S.ShapesLines.IsShapedLine c.args.shaper.now) (page_of c.args.glyphs.now c.in_ok-frame.frame c.args.breaks.now) c.in_ok-frame.frame.end ls.items) (λ ls. AreFilledLines c.args.direction (g.S.ShapesLines.IsShapedLine c.args.shaper.now) (paragraph_of c.args.direction c.args.glyphs.now (length c.args.text.now) c.args.breaks.now c.args.width) ls.items)
    (λ ls is. all_lines c.args.direction (g.S.ShapesLines.IsShapedLine c.args.shaper.now) (paragraph_of c.args.direction c.args.glyphs.now (length c.args.text.now) c.args.breaks.now c.args.width) ls.items (filled_page c.args.direction (g.S.ShapesLines.IsShapedLine c.args.shaper.now) c.args.glyphs.now c.in_ok-frame.frame (length (all_glyphs c.args.glyphs.now)) (length c.args.text.now) c.args.breaks.now c.args.width ls.items frame is))
    c.lines_one_by_one.ensures.lines

pub returns-clause-fits : goal.returns-clause-fits
returns-clause-fits g c =
    let F : ℤ → Type 0 = λ w. c.in_ok-frame.frame ≡ record { direction = c.args.direction; count = length (all_glyphs c.args.glyphs.now); end = length c.args.text.now; widths = same_widths w } in
    let frame = subst F (to_z-of_z w64 c.args.width c.ranges.width) c.in_ok-frame.ensures.frame in
    if_ok c.lines_one_by_one.result (λ ls. AreLinesTo c.in_ok-frame.frame.direction (g.S.ShapesLines.IsShapedLine c.args.shaper.now) (page_of c.args.glyphs.now c.in_ok-frame.frame c.args.breaks.now) c.in_ok-frame.frame.end ls.items) (λ ls. All (FitsWidth (paragraph_of c.args.direction c.args.glyphs.now (length c.args.text.now) c.args.breaks.now c.args.width)) ls.items)
    (λ ls is. all_fit c.args.direction (g.S.ShapesLines.IsShapedLine c.args.shaper.now) (paragraph_of c.args.direction c.args.glyphs.now (length c.args.text.now) c.args.breaks.now c.args.width) ls.items (filled_page c.args.direction (g.S.ShapesLines.IsShapedLine c.args.shaper.now) c.args.glyphs.now c.in_ok-frame.frame (length (all_glyphs c.args.glyphs.now)) (length c.args.text.now) c.args.breaks.now c.args.width ls.items frame is))
    c.lines_one_by_one.ensures.lines

pub returns-clause-full : goal.returns-clause-full
returns-clause-full g c =
    let F : ℤ → Type 0 = λ w. c.in_ok-frame.frame ≡ record { direction = c.args.direction; count = length (all_glyphs c.args.glyphs.now); end = length c.args.text.now; widths = same_widths w } in
    let frame = subst F (to_z-of_z w64 c.args.width c.ranges.width) c.in_ok-frame.ensures.frame in
    if_ok c.lines_one_by_one.result (λ ls. AreLinesTo c.in_ok-frame.frame.direction (g.S.ShapesLines.IsShapedLine c.args.shaper.now) (page_of c.args.glyphs.now c.in_ok-frame.frame c.args.breaks.now) c.in_ok-frame.frame.end ls.items) (λ ls. All (IsFull c.args.direction (g.S.ShapesLines.IsShapedLine c.args.shaper.now) (paragraph_of c.args.direction c.args.glyphs.now (length c.args.text.now) c.args.breaks.now c.args.width)) ls.items)
    (λ ls is. all_full c.args.direction (g.S.ShapesLines.IsShapedLine c.args.shaper.now) (paragraph_of c.args.direction c.args.glyphs.now (length c.args.text.now) c.args.breaks.now c.args.width) ls.items (filled_page c.args.direction (g.S.ShapesLines.IsShapedLine c.args.shaper.now) c.args.glyphs.now c.in_ok-frame.frame (length (all_glyphs c.args.glyphs.now)) (length c.args.text.now) c.args.breaks.now c.args.width ls.items frame is))
    c.lines_one_by_one.ensures.lines

pub returns-clause-may : goal.returns-clause-may
returns-clause-may g c = on_ok c.lines_one_by_one.result (CanBeCut c.args.direction c.args.glyphs.now c.args.text.now c.args.breaks.now) c.in_ok-frame.ensures.may

pub returns-clause-fault : goal.returns-clause-fault
returns-clause-fault g c =
    let F : ℤ → Type 0 = λ w. c.in_ok-frame.frame ≡ record { direction = c.args.direction; count = length (all_glyphs c.args.glyphs.now); end = length c.args.text.now; widths = same_widths w } in
    let frame = subst F (to_z-of_z w64 c.args.width c.ranges.width) c.in_ok-frame.ensures.frame in
    if_err c.lines_one_by_one.result (IsLineFault (g.S.ShapesLines.IsShapedLine c.args.shaper.now) (g.S.ShapesLines.IsRefusedLine c.args.shaper.now) (page_of c.args.glyphs.now c.in_ok-frame.frame c.args.breaks.now))
    (IsFillFaultOf (g.S.ShapesLines.IsShapedLine c.args.shaper.now) (g.S.ShapesLines.IsRefusedLine c.args.shaper.now) c.args.direction c.args.glyphs.now c.args.text.now c.args.breaks.now c.args.width)
    (λ e is. fill_fault (g.S.ShapesLines.IsShapedLine c.args.shaper.now) (g.S.ShapesLines.IsRefusedLine c.args.shaper.now) c.args.direction c.args.glyphs.now c.args.text.now c.args.breaks.now c.args.width e c.in_ok-frame.ensures.may
    (page_fault (g.S.ShapesLines.IsShapedLine c.args.shaper.now) (g.S.ShapesLines.IsRefusedLine c.args.shaper.now) c.args.direction c.args.glyphs.now c.in_ok-frame.frame (length (all_glyphs c.args.glyphs.now)) (length c.args.text.now) c.args.breaks.now c.args.width e frame is))
    c.lines_one_by_one.ensures.fault
