use Rattle.std.proofs.Common.{◌≡◌, ◌++◌, drop, length}
use Rattle.std.specs.List.{flat_map}
use Rattle.layout_map.specs.Lookups.{Stage, stage_lookups, stages_from, stage_ends}
use Rattle.layout_map.proofs.stages.all_stages.Given as goal

-- the stages so far, and then those that are left
abbrev pub invariant-loop-stage : goal.invariant-loop-stage
invariant-loop-stage l =
    let of_stage = stage_lookups l.of.table l.of.chosen.now l.of.required l.of.features.now in
    record {
      lookups : l.lookups.items ++ flat_map (λ (s : Stage). s.lookups) (stages_from of_stage l.stage (drop l.stage l.pauses))
          ≡ flat_map (λ (s : Stage). s.lookups) (stages_from of_stage 0 l.pauses);
      stages : l.stages.items ++ stage_ends (length l.lookups.items) (stages_from of_stage l.stage (drop l.stage l.pauses))
          ≡ stage_ends 0 (stages_from of_stage 0 l.pauses);
    }
