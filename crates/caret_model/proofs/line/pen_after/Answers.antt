use Rattle.std.proofs.Common.{FitsSigned, arith, rules, to_z, w32, w64}
use Rattle.caret_model.proofs.PenSteps.{pen_moved}
use Rattle.caret_model.proofs.line.pen_after.Goals as goal

pub loop-i-preserved : goal.loop-i-preserved
loop-i-preserved c =
    let fits : FitsSigned w32 c.advance_along.result = search rules in
    let within = c.requires.within in
    pen_moved c.args.direction c.args.positions.now c.loop-i.i _ (to_z w64 c.loop-i.pen-bits) c.from-pen.result c.advance_along.result (omega (arith, within)) c.requires.few c.advance_along.ensures fits c.from-pen.ensures c.loop-i.invariant
