use Rattle.std.proofs.Common.{arith}
use Rattle.shape_normalize.proofs.Given.{given_more}
use Rattle.shape_normalize.proofs.kept_runs.give_each.Goals as goal

pub loop-i-preserved : goal.loop-i-preserved
loop-i-preserved g c =
    let lt = c.loop-i-test.true in
    let all = c.lookahead_len-count.ensures.count in
    record {
      given = given_more (g.N.Normalizing.normalizer c.args.by.now) c.loop-i.i c.args.buffer.now c.loop-i.buffer c.give_at.new.buffer (omega (arith, lt, all)) c.loop-i.invariant.given c.give_at.ensures.given;
      rows = c.give_at.ensures.rows;
    }
