use Rattle.std.proofs.Common.{ℤ, length, w64, subst}
use Rattle.std.proofs.lemmas.Int.{to_z-of_z}
use Rattle.line_pieces.specs.declared.filling.Frame.{Frame}
use Rattle.line_pieces.specs.Lines.{AreLines, paragraph_by, paragraph_of}
use Rattle.line_pieces.proofs.filling.cut_lines.Goals as goal

pub returns-clause-lines : goal.returns-clause-lines
returns-clause-lines c =
    let P : Frame → Type 0 = λ f. AreLines (paragraph_by f.direction c.args.glyphs.now f.end c.args.breaks.now f.widths) c.in_ok-lines.lines.items in
    let Q : ℤ → Type 0 = λ w. AreLines (paragraph_of c.args.direction c.args.glyphs.now (length c.args.text.now) c.args.breaks.now w) c.in_ok-lines.lines.items in
    subst Q (to_z-of_z w64 c.args.width c.ranges.width) (subst P c.in_ok-frame.ensures.frame c.in_ok-lines.ensures)
