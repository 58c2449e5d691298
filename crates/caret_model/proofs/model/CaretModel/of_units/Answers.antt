use Rattle.std.proofs.Common.{ap, ◌∙◌}
use Rattle.kuspveli.specs.shape_slices.Fitting.{UnitsFit}
use Rattle.caret_model.specs.Lines.{carets_of}
use Rattle.caret_model.specs.Pens.{are_at_beginning}
use Rattle.caret_model.proofs.Units.{units_line, units_without_line}
use Rattle.caret_model.proofs.model.CaretModel.of_units.Goals as goal

pub returns-then-not-are_at_beginning-clause-fault :
    goal.returns-then-not-are_at_beginning-clause-fault
returns-then-not-are_at_beginning-clause-fault c =
    units_without_line c.args.direction c.args.glyphs.now c.args.units c.in_ok-slices.slices.items c.is_backward-backward.result c.are_at_beginning.result c.in_ok-slices.ensures c.is_backward-backward.ensures
    (c.are_at_beginning.ensures ∙ ap (are_at_beginning c.is_backward-backward.result c.args.units) c.deref.ensures.value) c.if-not-are_at_beginning.true

line_is : goal.returns-clause-line
line_is c =
    let fits : UnitsFit c.args.glyphs.now c.args.units = c.units_fit.ensures.0 c.if-not-units_fit.false in
    let carets = c.in_ok-carets.ensures ∙ ap (λ ps. carets_of c.args.direction ps c.args.units c.deref-2.result.now) c.glyph_positions.ensures.same ∙ ap (carets_of c.args.direction c.args.glyphs.now.positions c.args.units) c.deref-2.ensures.value in
    units_line c.law_source_slices_join.ensures c.args.direction c.args.glyphs.now c.args.units c.in_ok-slices.slices.items c.in_ok-carets.carets.items c.is_backward-backward.result c.are_at_beginning.result fits c.in_ok-slices.ensures
    c.is_backward-backward.ensures (c.are_at_beginning.ensures ∙ ap (are_at_beginning c.is_backward-backward.result c.args.units) c.deref.ensures.value) c.if-not-are_at_beginning.false carets

pub invariant_of-result : goal.invariant_of-result
invariant_of-result c = (line_is c).line

pub returns-clause-line : goal.returns-clause-line
returns-clause-line c = line_is c
