use Rattle.std.proofs.Common.{◌≡◌, ◌≤◌, ◌-◌, length, map, take}
use Rattle.buffer_glyphs.specs.Glyphs.{in_cluster, glyphs_renumbered}
use Rattle.buffer_glyphs.proofs.runs.rename_front.Given as goal

-- up to `at` all glyphs are of the cluster
abbrev pub invariant-loop-at : goal.invariant-loop-at
invariant-loop-at l = record {
  within : l.at ≤ length l.glyphs;
  passed : glyphs_renumbered l.cluster l.low (take l.at l.glyphs) ≡ map (in_cluster l.low) (take l.at l.glyphs);
}

abbrev pub decreases-loop-at : goal.decreases-loop-at
decreases-loop-at l = length l.glyphs - l.at
