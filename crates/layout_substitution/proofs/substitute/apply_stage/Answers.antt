use Rattle.std.proofs.Common.{◌≡◌, rules, Ok, Err, List, false, get_or, slice_get, subst, ap, ◌∙◌}
use Rattle.buffer_core.specs.Readings.{reading_of}
use Rattle.layout_face.specs.declared.parts.FaceParts.{FaceParts}
use Rattle.layout_face.specs.declared.substitution.SubstLookup.{SubstLookup}
use Rattle.layout_map_features.specs.declared.lookup.lookup_map_t.{lookup_map_t}
use Rattle.layout_match.proofs.Lemmas.Stages.{stage_refused}
use Rattle.buffer_stages.specs.Ready.{IsDoneFrom, state_with}
use Rattle.layout_substitution.specs.Lookups.{lookup_stage, lookups_stage}
use Rattle.layout_substitution.proofs.Stages.{all_done, one_done, one_refused}
use Rattle.layout_substitution.proofs.Ways.{no_table, of_table}
use Rattle.layout_substitution.proofs.substitute.apply_stage.Goals as goal

pub returns-in_default-clause-stage : goal.returns-in_default-clause-stage
returns-in_default-clause-stage g c = no_table c.args.ctx.now.face.now c.args.lookups.now c.args.ctx.now.random_state c.args.buffer.now c.requires.glyphs.ready (search rules)

pub loop-lookup_map-preserved : goal.loop-lookup_map-preserved
loop-lookup_map-preserved g c =
    let none : lookup_map_t = record { index = 0; mask = 0; auto_zwnj = false; auto_zwj = false; random = false; per_syllable = false } in
    let table = c.in-Some.table.now.lookups in
    let i = c.loop-lookup_map.invariant in
    let r = c.loop-lookup_map.ctx.random_state in
    let after = c.apply_mapped.new.ctx.random_state in
    let m = get_or c.args.lookups.now c.loop-lookup_map.lookup_map-index none in
    let P : FaceParts → Type 0 = λ font. IsDoneFrom r after (lookup_stage font table (slice_get table m.index) m) c.loop-lookup_map.buffer c.apply_mapped.new.buffer in
    record {
      done =
          one_done c.args.ctx.now.face.now table c.args.lookups.now c.loop-lookup_map.lookup_map-index none c.args.ctx.now.random_state r after c.args.buffer.now c.loop-lookup_map.buffer c.apply_mapped.new.buffer c.loop-lookup_map-test.true i.done
          (subst P i.face c.in_ok-cleared.ensures.stage);
      substitution = c.apply_mapped.ensures.table;
      held = c.in_ok-cleared.ensures.held;
      face = c.apply_mapped.ensures.face ∙ i.face;
      cleared = λ is. c.apply_mapped.ensures.cleared (c.in_ok-cleared.was ∙ ap Ok is);
    }

pub returns-clause-stage : goal.returns-clause-stage
returns-clause-stage g c =
    let font = c.args.ctx.now.face.now in
    let before = c.args.ctx.now.random_state in
    let r = c.loop-lookup_map.ctx.random_state in
    of_table font c.in-Some.table.now c.in-Some.ensures (λ (ls : List SubstLookup). IsDoneFrom before r (lookups_stage font ls c.args.lookups.now) c.args.buffer.now c.loop-lookup_map.buffer)
    (all_done font c.in-Some.table.now.lookups c.args.lookups.now c.loop-lookup_map.lookup_map-index before r c.args.buffer.now c.loop-lookup_map.buffer c.loop-lookup_map-test.false c.loop-lookup_map.invariant.done)

pub returns-in_err-cleared-clause-stage : goal.returns-in_err-cleared-clause-stage
returns-in_err-cleared-clause-stage g c =
    let none : lookup_map_t = record { index = 0; mask = 0; auto_zwnj = false; auto_zwj = false; random = false; per_syllable = false } in
    let font = c.args.ctx.now.face.now in
    let table = c.in-Some.table.now.lookups in
    let before = c.args.ctx.now.random_state in
    let r = c.loop-lookup_map.ctx.random_state in
    let i = c.loop-lookup_map.invariant in
    let k = c.loop-lookup_map.lookup_map-index in
    let cause = c.in_err-cleared.field-0.0 in
    let m = get_or c.args.lookups.now k none in
    let P : FaceParts → Type 0 = λ f. reading_of (lookup_stage f table (slice_get table m.index) m) (state_with r c.loop-lookup_map.buffer) ≡ Err cause in
    stage_refused c.from_residual.result cause _ _ _ _ _ c.from_residual.ensures.1
    (λ not_memory. of_table font c.in-Some.table.now c.in-Some.ensures (λ (ls : List SubstLookup). reading_of (lookups_stage font ls c.args.lookups.now) (state_with before c.args.buffer.now) ≡ Err cause)
    (one_refused font table c.args.lookups.now k none before r c.args.buffer.now c.loop-lookup_map.buffer cause c.loop-lookup_map-test.true i.done (subst P i.face (c.in_err-cleared.ensures.stage not_memory))))
