use Rattle.std.proofs.Common.{rules}
use Rattle.layout_offsets.proofs.Summing.{summing_next}
use Rattle.layout_offsets.proofs.advance_sums.sum_up.Goals as goal

pub loop-i-preserved : goal.loop-i-preserved
loop-i-preserved c =
    let s = c.loop-i in
    summing_next c.args.positions.now s.i s.pen c.pen_after-pen.result s.positions c.kind_tested-position.result c.with_pen.result s.invariant (search rules) c.kind_tested-position.ensures.value c.kind_tested-position.ensures.fits c.pen_after-pen.ensures c.with_pen.ensures
