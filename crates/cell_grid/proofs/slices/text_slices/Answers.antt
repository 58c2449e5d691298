use Rattle.std.proofs.Common.{Bool, List, ap, inl, inr, length, subst, sym, ◌∙◌}
use Rattle.buffer_facts.proofs.Truth.{not_both}
use Rattle.kuspveli.specs.buffer_common.Direction.{is_backward}
use Rattle.kuspveli.specs.shape_slices.declared.slices.SourceSlice.{SourceSlice}
use Rattle.kuspveli.specs.shape_slices.Fitting.{SlicesFit}
use Rattle.kuspveli.specs.buffer_glyphs.Items.{clusters}
use Rattle.kuspveli.specs.shaping_buffer.buffer_core.Sides.{all_glyphs}
use Rattle.caret_model.specs.Pens.{are_at_beginning}
use Rattle.caret_model.proofs.Made.{has_no_line}
use Rattle.cell_grid.specs.Walk.{AreTextSlices}
use Rattle.cell_grid.proofs.Texts.{has_line, made_slices, no_cells, no_slices}
use Rattle.cell_grid.proofs.slices.text_slices.Goals as goal

pub returns-then-are_empty-clause-slices : goal.returns-then-are_empty-clause-slices
returns-then-are_empty-clause-slices c =
    let both = c.are_empty.ensures.0 c.if-are_empty.true in
    let P : List SourceSlice → Type 0 = λ ss. AreTextSlices (is_backward c.args.direction) (clusters (all_glyphs c.args.glyphs.now)) c.args.text.now ss in
    subst P (sym c.new.ensures.items) (no_slices (is_backward c.args.direction) c.args.glyphs.now c.args.text.now both.0 both.1)

pub returns-then-are_empty-clause-may : goal.returns-then-are_empty-clause-may
returns-then-are_empty-clause-may c = inl (c.are_empty.ensures.0 c.if-are_empty.true)

pub returns-then-not-slices_fit-clause-fault : goal.returns-then-not-slices_fit-clause-fault
returns-then-not-slices_fit-clause-fault c =
    no_cells c.args.direction c.args.glyphs.now c.args.text.now (λ both. not_both c.are_empty.result (c.are_empty.ensures.1 both) c.if-are_empty.false)
    (λ line. not_both c.slices_fit.result (c.slices_fit.ensures.1 line.fits) c.if-not-slices_fit.true)

pub returns-then-not-are_at_beginning-clause-fault :
    goal.returns-then-not-are_at_beginning-clause-fault
returns-then-not-are_at_beginning-clause-fault c =
    no_cells c.args.direction c.args.glyphs.now c.args.text.now (λ both. not_both c.are_empty.result (c.are_empty.ensures.1 both) c.if-are_empty.false)
    (has_no_line c.args.direction c.args.glyphs.now c.args.text.now c.in_ok-slices.slices.items c.is_backward-backward.result c.are_at_beginning.result c.in_ok-slices.ensures c.is_backward-backward.ensures
    (c.are_at_beginning.ensures ∙ ap (are_at_beginning c.is_backward-backward.result (length c.args.text.now)) c.deref.ensures.value) c.if-not-are_at_beginning.true)

pub returns-clause-slices : goal.returns-clause-slices
returns-clause-slices c =
    let fits : SlicesFit c.args.glyphs.now c.args.text.now = c.slices_fit.ensures.0 c.if-not-slices_fit.false in
    let test = sym (c.are_at_beginning.ensures ∙ ap (are_at_beginning c.is_backward-backward.result (length c.args.text.now)) c.deref.ensures.value) ∙ c.if-not-are_at_beginning.false in
    let P : Bool → Type 0 = λ b. AreTextSlices b (clusters (all_glyphs c.args.glyphs.now)) c.args.text.now c.in_text_order.result.items in
    subst P c.is_backward-backward.ensures
    (made_slices c.law_source_slices_join.ensures c.args.glyphs.now c.args.text.now c.utf8.text fits c.is_backward-backward.result c.in_ok-slices.slices.items c.in_text_order.result.items c.in_ok-slices.ensures test c.in_text_order.ensures)

pub returns-clause-may : goal.returns-clause-may
returns-clause-may c =
    let fits : SlicesFit c.args.glyphs.now c.args.text.now = c.slices_fit.ensures.0 c.if-not-slices_fit.false in
    let test = sym (c.are_at_beginning.ensures ∙ ap (are_at_beginning c.is_backward-backward.result (length c.args.text.now)) c.deref.ensures.value) ∙ c.if-not-are_at_beginning.false in
    inr (has_line c.law_source_slices_join.ensures c.args.glyphs.now c.args.text.now c.utf8.text fits c.args.direction c.is_backward-backward.result c.in_ok-slices.slices.items c.is_backward-backward.ensures c.in_ok-slices.ensures test)
