use Rattle.std.proofs.Common.{arith}
use Rattle.shape_fallback.proofs.Placed.{goes_on, numbers_within}
use Rattle.shape_fallback.proofs.marks.position_each.Goals as goal

pub make_step-step-requires-clause-number : goal.make_step-step-requires-clause-number
make_step-step-requires-clause-number c =
    numbers_within c.args.face.now c.args.by c.loop-i.i _ c.loop-i.before _ c.info_slice.result.now c.args.buffer.now c.loop-i.buffer c.info_slice.ensures (omega (arith, c.loop-i-test.true)) c.loop-i.invariant

pub loop-i-preserved : goal.loop-i-preserved
loop-i-preserved c =
    goes_on c.args.face.now c.args.by c.loop-i.i _ c.loop-i.before _ _ c.make_step-step.result c.info_slice.result.now c.pos_slice.result.now c.pos_slice_mut.result.now c.args.buffer.now c.loop-i.buffer
    c.info_slice.ensures c.pos_slice.ensures.same c.pos_slice_mut.ensures.value (omega (arith, c.loop-i-test.true)) c.make_step-step.ensures.value c.make_step-step.ensures.bound c.loop-i.invariant
