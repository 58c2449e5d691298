use Rattle.std.proofs.Common.{arith, sym, ◌∙◌}
use Rattle.shape_normalize.proofs.Kept.{counting_more, counting_stopped}
use Rattle.shape_normalize.proofs.kept_runs.count_marks.Goals as goal

pub returns-then-not-is_mark-clause-marks : goal.returns-then-not-is_mark-clause-marks
returns-then-not-is_mark-clause-marks c =
    let stopped = counting_stopped c.args.from c.loop-i.i c.cur.result.now c.args.buffer.now.ahead c.cur.ensures (sym c.is_mark.ensures ∙ c.if-not-is_mark.true) c.loop-i.invariant in
    omega (arith, stopped)

pub loop-i-preserved : goal.loop-i-preserved
loop-i-preserved c =
    counting_more c.args.from c.loop-i.i c.lookahead_len-end.result c.cur.result.now c.args.buffer.now.ahead c.lookahead_len-end.ensures.count c.loop-i-test.true c.cur.ensures (sym c.is_mark.ensures ∙ c.if-not-is_mark.false)
    c.loop-i.invariant
