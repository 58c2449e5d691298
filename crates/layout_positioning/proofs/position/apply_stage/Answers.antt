use Rattle.std.proofs.Common.{◌≡◌, rules, Err, List, false}
use Rattle.buffer_core.specs.Readings.{reading_of}
use Rattle.buffer_stages.specs.Ready.{IsDoneFrom, state_with}
use Rattle.layout_face.specs.declared.positioning.PositioningLookup.{PositioningLookup}
use Rattle.layout_map_features.specs.declared.lookup.lookup_map_t.{lookup_map_t}
use Rattle.layout_match.proofs.Lemmas.Stages.{stage_refused}
use Rattle.layout_positioning.specs.Positioning.{lookups_stage}
use Rattle.layout_positioning.proofs.Ways.{all_done, no_table, of_table, one_done, one_refused}
use Rattle.layout_positioning.proofs.position.apply_stage.Goals as goal

pub returns-in_default-clause-stage : goal.returns-in_default-clause-stage
returns-in_default-clause-stage g c = no_table c.args.face.now c.args.lookups.now c.args.buffer.now c.requires.glyphs.ready (search rules)

pub loop-lookup_map-preserved : goal.loop-lookup_map-preserved
loop-lookup_map-preserved g c =
    let none : lookup_map_t = record { index = 0; mask = 0; auto_zwnj = false; auto_zwj = false; random = false; per_syllable = false } in
    record {
      done = one_done c.args.face.now c.in-Some.table.now.lookups c.args.lookups.now c.loop-lookup_map.lookup_map-index none c.args.buffer.now c.loop-lookup_map.buffer c.apply_mapped.new.buffer c.loop-lookup_map-test.true c.loop-lookup_map.invariant.done c.in_ok-apply_mapped.ensures.stage;
      held = c.in_ok-apply_mapped.ensures.held;
    }

pub returns-clause-stage : goal.returns-clause-stage
returns-clause-stage g c =
    let font = c.args.face.now in
    of_table font c.in-Some.table.now c.in-Some.ensures (λ (ls : List PositioningLookup). IsDoneFrom 1 1 (lookups_stage font ls c.args.lookups.now) c.args.buffer.now c.loop-lookup_map.buffer)
    (all_done font c.in-Some.table.now.lookups c.args.lookups.now c.loop-lookup_map.lookup_map-index c.args.buffer.now c.loop-lookup_map.buffer c.loop-lookup_map-test.false c.loop-lookup_map.invariant.done)

pub returns-in_err-apply_mapped-clause-stage : goal.returns-in_err-apply_mapped-clause-stage
returns-in_err-apply_mapped-clause-stage g c =
    let none : lookup_map_t = record { index = 0; mask = 0; auto_zwnj = false; auto_zwj = false; random = false; per_syllable = false } in
    let font = c.args.face.now in
    let cause = c.in_err-apply_mapped.field-0.0 in
    stage_refused c.from_residual.result cause _ _ _ _ _ c.from_residual.ensures.1
    (λ not_memory. of_table font c.in-Some.table.now c.in-Some.ensures (λ (ls : List PositioningLookup). reading_of (lookups_stage font ls c.args.lookups.now) (state_with 1 c.args.buffer.now) ≡ Err cause)
    (one_refused font c.in-Some.table.now.lookups c.args.lookups.now c.loop-lookup_map.lookup_map-index none c.args.buffer.now c.loop-lookup_map.buffer cause c.loop-lookup_map-test.true c.loop-lookup_map.invariant.done (c.in_err-apply_mapped.ensures.stage not_memory)))
