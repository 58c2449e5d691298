use Rattle.buffer_glyphs.specs.Items.{strip}
use Rattle.shape_normalize.proofs.Kept.{keeps_more, none_kept}
use Rattle.shape_normalize.proofs.kept_runs.kept_run.Goals as goal

pub loop-at-init : goal.loop-at-init
loop-at-init g c = record { kept = none_kept (g.N.Normalizing.normalizer c.args.by.now) (strip c.args.buffer.now.ahead); known = c.requires }

pub loop-at-preserved : goal.loop-at-preserved
loop-at-preserved g c = record {
  kept =
      keeps_more (g.N.Normalizing.normalizer c.args.by.now) c.loop-at.at c.kept_group-count.result (strip c.args.buffer.now.ahead) c.loop-at.invariant.kept c.kept_group-count.ensures.kept;
  known = c.kept_group-count.ensures.known;
}
