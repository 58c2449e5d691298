use Rattle.std.proofs.Common.{◌≡◌, ◌++◌, drop}
use Rattle.std.specs.List.{flat_map}
use Rattle.layout_map.specs.Lookups.{feature_lookups, stage_uses}
use Rattle.layout_map.proofs.stages.stage_uses.Given as goal

-- the lookups so far, and then those of the features that are left
abbrev pub invariant-loop-feature : goal.invariant-loop-feature
invariant-loop-feature l =
    l.uses.items ++ flat_map (feature_lookups l.of.table l.of.chosen.now l.stage) (drop l.feature-index l.of.features.now)
    ≡ stage_uses l.of.table l.of.chosen.now l.of.required l.of.features.now l.stage
