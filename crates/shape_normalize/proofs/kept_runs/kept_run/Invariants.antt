use Rattle.std.proofs.Common.{◌-◌}
use Rattle.buffer_glyphs.specs.Items.{strip}
use Rattle.shape_normalize.specs.KeptRuns.{Keeps}
use Rattle.shape_normalize.specs.Undecomposed.{AreUndecomposed}
use Rattle.shape_normalize.proofs.kept_runs.kept_run.Given as goal

abbrev pub invariant-loop-at : goal.invariant-loop-at
invariant-loop-at g l = record {
  kept : Keeps (g.N.Normalizing.normalizer l.by) l.at (strip l.buffer.ahead);
  known : AreUndecomposed (g.N.Normalizing.normalizer l.by) l.known;
}

abbrev pub decreases-loop-at : goal.decreases-loop-at
decreases-loop-at g l = l.end - l.at
