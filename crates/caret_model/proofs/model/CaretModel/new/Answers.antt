use Rattle.std.proofs.Common.{ap, length, ◌∙◌}
use Rattle.kuspveli.specs.shape_slices.Fitting.{SlicesFit}
use Rattle.caret_model.specs.Lines.{carets_of}
use Rattle.caret_model.specs.Pens.{are_at_beginning}
use Rattle.caret_model.proofs.Made.{has_no_line, made_line}
use Rattle.caret_model.proofs.model.CaretModel.new.Goals as goal

pub returns-then-not-are_at_beginning-clause-fault :
    goal.returns-then-not-are_at_beginning-clause-fault
returns-then-not-are_at_beginning-clause-fault c =
    has_no_line c.args.direction c.args.glyphs.now c.args.text.now c.in_ok-slices.slices.items c.is_backward-backward.result c.are_at_beginning.result c.in_ok-slices.ensures c.is_backward-backward.ensures
    (c.are_at_beginning.ensures ∙ ap (are_at_beginning c.is_backward-backward.result (length c.args.text.now)) c.deref.ensures.value) c.if-not-are_at_beginning.true

line_is : goal.returns-clause-line
line_is c =
    let fits : SlicesFit c.args.glyphs.now c.args.text.now = c.slices_fit.ensures.0 c.if-not-slices_fit.false in
    let carets = c.in_ok-carets.ensures ∙ ap (λ ps. carets_of c.args.direction ps (length c.args.text.now) c.deref-2.result.now) c.glyph_positions.ensures.same ∙ ap (carets_of c.args.direction c.args.glyphs.now.positions (length c.args.text.now)) c.deref-2.ensures.value in
    made_line c.law_source_slices_join.ensures c.args.direction c.args.glyphs.now c.args.text.now c.in_ok-slices.slices.items c.in_ok-carets.carets.items c.is_backward-backward.result c.are_at_beginning.result c.utf8.text fits c.in_ok-slices.ensures
    c.is_backward-backward.ensures (c.are_at_beginning.ensures ∙ ap (are_at_beginning c.is_backward-backward.result (length c.args.text.now)) c.deref.ensures.value) c.if-not-are_at_beginning.false carets

pub invariant_of-result : goal.invariant_of-result
invariant_of-result c = (line_is c).line

pub returns-clause-line : goal.returns-clause-line
returns-clause-line c = line_is c
