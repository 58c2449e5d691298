use Rattle.std.proofs.Common.{ap, ◌∙◌}
use Rattle.script_plan.proofs.Plans.{choices_by, data_by, plan_made, requests_are}
use Rattle.layout_map.specs.Compiled.{compiled_map}
use Rattle.script_plan.specs.Traits.{ShaperKind}
use Rattle.script_plan.proofs.plan.hb_ot_shape_plan_t.new.Goals as goal

pub returns : goal.returns
returns g c =
    let kind : ShaperKind g.row.S.Denot g.row.S-PlanData.Denot = record {
      shaper_of = g.S.CategorizedShaper.shaper_of;
      traits = g.S.PlannedShaper.traits;
      asking = λ shaper. record { collects = g.S.PlannedShaper.collects shaper; overrides = g.S.PlannedShaper.overrides shaper };
      data_of = g.S.PlannedShaper.data_of;
    } in
    let first = c.new-planner.ensures in
    let asked = c.in_ok-collect_features.ensures in
    let made = c.in_ok-plan.ensures in
    plan_made kind c.args.face.now _ c.args.direction c.args.script c.args.features.now c.in_ok-plan.plan c.new-planner.result.shaper c.collect_features.new.self.ot_map
    first.shaper
    (requests_are (kind.asking c.new-planner.result.shaper) _ _ _ _ c.args.features.now _ _ c.collect_features.new.self.ot_map first.direction first.script first.requests (ap (λ p. p.ot_map) asked))
    (made.shaper ∙ ap (λ p. p.shaper) asked)
    (made.direction ∙ ap (λ p. p.direction) asked ∙ first.direction)
    (made.script ∙ ap (λ p. p.script) asked ∙ first.script)
    made.map
    made.mark
    (choices_by kind c.args.face.now _ _ _ _ _ (compiled_map c.collect_features.new.self.ot_map) _ (ap (λ p. p.shaper) asked) (ap (λ p. p.face.now) asked ∙ first.face)
    (ap (λ p. p.script_zero_marks) asked ∙ first.zero_marks) (ap (λ p. p.script_fallback_mark_positioning) asked ∙ first.fallback) made.choices)
    (data_by kind _ _ (compiled_map c.collect_features.new.self.ot_map) _ _ _ (ap (λ p. p.shaper) asked) (ap (λ p. p.script) asked ∙ first.script) made.data)
    made.features
    (made.languages ∙ ap (λ p. p.language_tags.items) asked ∙ first.languages)
