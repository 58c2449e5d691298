use Rattle.std.proofs.Common.{sym, ◌∙◌}
use Rattle.shape_normalize.specs.KeptRuns.{is_kept}
use Rattle.shape_normalize.proofs.Kept.{kept_here, kept_none}
use Rattle.shape_normalize.proofs.kept_runs.are_kept.Goals as goal

pub returns-then-not-is_kept-clause-value : goal.returns-then-not-is_kept-clause-value
returns-then-not-is_kept-clause-value g c =
    kept_none (is_kept (g.N.Normalizing.normalizer c.args.by.now) c.args.reach) c.loop-i.i c.args.from c.args.count c.cur.result.now c.args.buffer.now.ahead c.loop-i-test.true c.cur.ensures
    (sym c.is_kept.ensures.value ∙ c.if-not-is_kept.true) c.loop-i.invariant.kept

pub loop-i-preserved : goal.loop-i-preserved
loop-i-preserved g c = record {
  kept =
      kept_here (is_kept (g.N.Normalizing.normalizer c.args.by.now) c.args.reach) c.loop-i.i c.args.from c.args.count c.cur.result.now c.args.buffer.now.ahead c.loop-i-test.true c.cur.ensures
      (sym c.is_kept.ensures.value ∙ c.if-not-is_kept.false) c.loop-i.invariant.kept;
  known = c.is_kept.ensures.known;
}
