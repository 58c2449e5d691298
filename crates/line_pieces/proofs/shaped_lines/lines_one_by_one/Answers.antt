use Rattle.std.proofs.Common.{ℕ, ◌≡◌, ◌+◌, List, arith, sym, ap, subst}
use Rattle.line_pieces.specs.declared.cuts.Cut.{Cut}
use Rattle.line_pieces.specs.declared.lines.FilledLine.{FilledLine}
use Rattle.line_pieces.specs.Cuts.{IsCut}
use Rattle.line_pieces.specs.LinesInHand.{AreLinesTo, IsFirstPiece, page_of}
use Rattle.line_pieces.specs.Steps.{text_steps}
use Rattle.line_pieces.proofs.Filled.{cut_first}
use Rattle.line_pieces.proofs.LinesTaken.{line_within, lines_begun, lines_more, piece_after}
use Rattle.line_pieces.proofs.Pieces.{first_piece, piece_within}
use Rattle.line_pieces.proofs.shaped_lines.lines_one_by_one.Goals as goal

pub loop-start-init : goal.loop-start-init
loop-start-init g c =
    let byte : c.first_cut-start.result.byte ≡ 0 = ap (λ (k : Cut). k.byte) c.first_cut-start.ensures in
    let P : Cut → Type 0 = λ k. IsCut (text_steps c.args.frame.direction c.args.glyphs.now) c.args.frame.end k in
    let Q : ℕ → Type 0 = λ n. IsFirstPiece (page_of c.args.glyphs.now c.args.frame c.args.breaks.now) n 0 in
    record {
      cut = subst P (sym c.first_cut-start.ensures) (cut_first (text_steps c.args.frame.direction c.args.glyphs.now) c.args.frame.end);
      within = omega (arith, byte);
      lines = lines_begun c.args.frame.direction (g.S.ShapesLines.IsShapedLine c.args.shaper.now) (page_of c.args.glyphs.now c.args.frame c.args.breaks.now) c.first_cut-start.result c.new-lines.result.items c.first_cut-start.ensures c.new-lines.ensures.items;
      first = λ some. subst Q (sym byte) (first_piece (page_of c.args.glyphs.now c.args.frame c.args.breaks.now) c.requires.page.rising (omega (arith, some, byte)));
    }

pub cut_at-next-requires-clause-after : goal.cut_at-next-requires-clause-after
cut_at-next-requires-clause-after g c = let some = c.in_ok-taken.ensures.line.reached.line.some in omega (arith, some)

pub loop-start-smaller : goal.loop-start-smaller
loop-start-smaller g c =
    let some = c.in_ok-taken.ensures.line.reached.line.some in
    let byte = c.cut_at-next.ensures.byte in
    let test = c.loop-start-test.true in
    omega (arith, some, byte, test)

pub loop-start-preserved : goal.loop-start-preserved
loop-start-preserved g c =
    let byte = c.cut_at-next.ensures.byte in
    let within = line_within c.args.frame.direction (g.S.ShapesLines.IsShapedLine c.args.shaper.now) (page_of c.args.glyphs.now c.args.frame c.args.breaks.now) c.requires.page.rising c.loop-start.start.byte c.in_ok-taken.taken c.in_ok-taken.ensures.line.reached in
    let P : List FilledLine → Type 0 = λ ls. AreLinesTo c.args.frame.direction (g.S.ShapesLines.IsShapedLine c.args.shaper.now) (page_of c.args.glyphs.now c.args.frame c.args.breaks.now) c.in_ok-taken.taken.line.end ls in
    let Q : ℕ → Type 0 = λ n. AreLinesTo c.args.frame.direction (g.S.ShapesLines.IsShapedLine c.args.shaper.now) (page_of c.args.glyphs.now c.args.frame c.args.breaks.now) n c.push_line.new.lines.items in
    let R : ℕ → Type 0 = λ n. IsFirstPiece (page_of c.args.glyphs.now c.args.frame c.args.breaks.now) c.cut_at-next.result.byte n in
    let S : ℕ → Type 0 = λ n. IsFirstPiece (page_of c.args.glyphs.now c.args.frame c.args.breaks.now) n (c.in_ok-taken.taken.piece + 1) in
    record {
      cut = c.cut_at-next.ensures.cut;
      within = omega (arith, within, byte);
      lines = subst Q (sym byte) (subst P (sym c.in_ok-push_line.ensures) (lines_more c.args.frame.direction (g.S.ShapesLines.IsShapedLine c.args.shaper.now) (page_of c.args.glyphs.now c.args.frame c.args.breaks.now) c.requires.page.rising c.loop-start.start.byte c.loop-start.lines.items c.in_ok-taken.taken c.loop-start.invariant.lines c.in_ok-taken.ensures.line));
      first = λ before.
          let end = c.in_ok-taken.ensures.line.reached.line.end in
          let under = piece_within c.args.frame.end c.in_ok-taken.taken.piece c.args.breaks.now (omega (arith, before, byte, end)) in
          let after = piece_after c.args.frame.direction (g.S.ShapesLines.IsShapedLine c.args.shaper.now) (page_of c.args.glyphs.now c.args.frame c.args.breaks.now) c.requires.page.rising c.loop-start.start.byte c.in_ok-taken.taken c.in_ok-taken.ensures.line.reached (omega (arith, before, byte)) in
          subst R (sym (c.piece_past-first.ensures under)) (subst S (sym byte) after);
    }

pub returns-clause-lines : goal.returns-clause-lines
returns-clause-lines g c =
    let within = c.loop-start.invariant.within in
    let test = c.loop-start-test.false in
    let same : c.loop-start.start.byte ≡ c.args.frame.end = omega (arith, within, test) in
    let P : ℕ → Type 0 = λ n. AreLinesTo c.args.frame.direction (g.S.ShapesLines.IsShapedLine c.args.shaper.now) (page_of c.args.glyphs.now c.args.frame c.args.breaks.now) n c.loop-start.lines.items in
    subst P same c.loop-start.invariant.lines
