use Rattle.std.proofs.Common.{◌≤◌, arith, subst}
use Rattle.kuspveli.specs.shape_slices.declared.slices.SourceSlice.{SourceSlice}
use Rattle.caret_model.specs.Lines.{Line}
use Rattle.caret_model.proofs.Finding.{none_more, past_end}
use Rattle.caret_model.proofs.model.CaretModel.slice_at.Goals as goal
use Rattle.caret_model.proofs.model.CaretModel.slice_at.Goals.{else-slice-byte-via-then-slice-byte+else-byte-slice, else-slice-byte-via-else-slice-byte}

abbrev no_slice : SourceSlice
no_slice = record { first_glyph = 0; end_glyph = 0; start = 0; end = 0 }

pub loop-slice-preserved : goal.loop-slice-preserved
loop-slice-preserved c = elim c.else-slice-byte.branch [
  | else-slice-byte-via-then-slice-byte+else-byte-slice w ↦ none_more c.args.byte c.deref-slice-items.result.now c.loop-slice.slice-index no_slice c.loop-slice-test.true c.loop-slice.invariant (λ is. let under = is.1 in let past = w.if-byte-slice.false in omega (arith, under, past))
  | else-slice-byte-via-else-slice-byte w ↦ none_more c.args.byte c.deref-slice-items.result.now c.loop-slice.slice-index no_slice c.loop-slice-test.true c.loop-slice.invariant (λ is. let over = is.0 in let before = w.if-slice-byte.false in omega (arith, over, before))
]

pub returns : goal.returns
returns c =
    let P : Line → Type 0 = λ l. l.end ≤ c.args.byte in
    subst P c.self.view_is (past_end _ c.deref-slice-items.result.now c.loop-slice.slice-index c.args.byte c.self.invariant c.deref-slice-items.ensures.value c.loop-slice-test.false c.loop-slice.invariant)
