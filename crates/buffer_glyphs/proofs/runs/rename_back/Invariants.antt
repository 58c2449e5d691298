use Rattle.std.proofs.Common.{◌≡◌, ◌≤◌, length, map, drop}
use Rattle.buffer_glyphs.specs.Glyphs.{in_cluster, glyphs_renumbered}
use Rattle.buffer_glyphs.proofs.runs.rename_back.Given as goal

-- from `at` on all glyphs are of the cluster
abbrev pub invariant-loop-at : goal.invariant-loop-at
invariant-loop-at l = record {
  within : l.at ≤ length l.glyphs;
  passed : glyphs_renumbered l.cluster l.low (drop l.at l.glyphs) ≡ map (in_cluster l.low) (drop l.at l.glyphs);
}

abbrev pub decreases-loop-at : goal.decreases-loop-at
decreases-loop-at l = l.at
