use Rattle.std.proofs.Common.{FitsSigned, ◌≡◌, ◌++◌, ◌∷◌, [], of_z, rules, slice_index_or, sym, subst, to_z, w64, ◌∙◌, ap, ℤ}
use Rattle.std.proofs.lemmas.Int.{to_z-of_z}
use Rattle.kuspveli.specs.shape_slices.declared.slices.SourceSlice.{SourceSlice}
use Rattle.caret_model.specs.Lines.{left_byte}
use Rattle.caret_model.specs.Pens.{IsPenAt}
use Rattle.caret_model.proofs.PenSteps.{caret_added, caret_of, run_ends}
use Rattle.caret_model.proofs.line.carets_of.Goals as goal

abbrev no_slice : SourceSlice
no_slice = record { first_glyph = 0; end_glyph = 0; start = 0; end = 0 }

pub pen_after-pen-requires-clause-within : goal.pen_after-pen-requires-clause-within
pen_after-pen-requires-clause-within c =
    let ends = run_ends c.args.direction c.args.positions.now c.args.slices.now c.loop-slice.slice-index c.loop-slice.at _ c.loop-slice.carets.items no_slice c.loop-slice.invariant c.loop-slice-test.true in
    ends.1

pub loop-slice-preserved : goal.loop-slice-preserved
loop-slice-preserved c =
    let fits : FitsSigned w64 c.pen_after-pen.result = search rules in
    let whole : c.pen_after-pen.result ≡ to_z w64 (of_z w64 c.pen_after-pen.result) = sym (to_z-of_z w64 c.pen_after-pen.result fits) in
    let s = slice_index_or c.args.slices.now c.loop-slice.slice-index no_slice in
    let P : ℤ → Type 0 = λ z. IsPenAt c.args.direction c.args.positions.now s.end_glyph z in
    let pen = to_z w64 c.loop-slice.pen-bits in
    let pen_fits : FitsSigned w64 pen = search rules in
    let same : to_z w64 (of_z w64 pen) ≡ pen = to_z-of_z w64 pen pen_fits in
    let caret : c.caret.result ≡ caret_of c.left_byte.result pen = cc in
    caret_added c.args.direction c.args.positions.now c.args.slices.now c.loop-slice.slice-index c.loop-slice.at pen _ c.loop-slice.carets.items c.push.new.self.items no_slice c.left_byte.result
    c.loop-slice.invariant c.loop-slice-test.true (subst P whole c.pen_after-pen.ensures) (c.left_byte.ensures ∙ ap (λ b. left_byte b s) c.is_backward-backward.ensures)
    (c.in_ok-push.ensures.items ∙ ap (λ e. c.loop-slice.carets.items ++ e ∷ []) caret)
