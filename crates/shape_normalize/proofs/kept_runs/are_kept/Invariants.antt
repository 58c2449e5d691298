use Rattle.std.proofs.Common.{◌≡◌, take, drop}
use Rattle.std.specs.List.{list_all}
use Rattle.buffer_glyphs.specs.Items.{strip}
use Rattle.shape_normalize.specs.KeptRuns.{is_kept}
use Rattle.shape_normalize.specs.Undecomposed.{AreUndecomposed}
use Rattle.shape_normalize.proofs.kept_runs.are_kept.Given as goal

abbrev pub invariant-loop-i : goal.invariant-loop-i
invariant-loop-i g l = record {
  kept :
      list_all (is_kept (g.N.Normalizing.normalizer l.by) l.reach) (drop l.i (take l.count (drop l.from (strip l.buffer.ahead)))) ≡ list_all (is_kept (g.N.Normalizing.normalizer l.by) l.reach) (take l.count (drop l.from (strip l.buffer.ahead)));
  known : AreUndecomposed (g.N.Normalizing.normalizer l.by) l.known;
}
