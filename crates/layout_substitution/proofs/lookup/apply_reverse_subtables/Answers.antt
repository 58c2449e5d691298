use Rattle.std.proofs.Common.{Bool, subst}
use Rattle.layout_match.specs.Applied.{apply_context_of}
use Rattle.layout_gsub.specs.Reverses.{reverse_subtable}
use Rattle.buffer_stages.specs.Buffers.{cut_of}
use Rattle.buffer_stages.specs.Performing.{PerformsWithoutOutput}
use Rattle.layout_substitution.proofs.InPlace.{put_next}
use Rattle.layout_substitution.proofs.lookup.apply_reverse_subtables.Goals as goal

pub loop-subtable-preserved : goal.loop-subtable-preserved
loop-subtable-preserved c =
    let a = apply_context_of c.args.ctx.now in
    let now = c.loop-subtable.buffer in
    let next = c.apply_reverse_subtable.new.buffer in
    let P : Bool → Type 0 = λ b. PerformsWithoutOutput (reverse_subtable a c.subtable-item.result (cut_of now)) b now next in
    put_next (reverse_subtable a) c.args.subtables.now c.loop-subtable.subtable-index c.subtable-item.result c.args.buffer.now now next c.loop-subtable-test.true c.subtable-item.is c.loop-subtable.invariant (subst P c.if-apply_reverse_subtable.false c.apply_reverse_subtable.ensures)
