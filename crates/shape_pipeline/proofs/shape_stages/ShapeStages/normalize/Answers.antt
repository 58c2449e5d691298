use Rattle.buffer_stages.specs.Settings.{text_settings}
use Rattle.buffer_core.specs.Settings.{number_set}
use Rattle.script_plan.specs.Fits.{script_or_unknown}
use Rattle.shape_pipeline.specs.Shaping.{Shaping}
use Rattle.shape_pipeline.proofs.Phases.{normal_as_set}
use Rattle.shape_pipeline.proofs.shape_stages.ShapeStages.normalize.Goals as goal

pub returns : goal.returns
returns g c =
    let q : Shaping = record { font = c.args.self.now.face.now; tables = c.args.self.now.tables.now; settings = text_settings c.args.buffer.now; direction = c.args.self.now.plan.now.script_plan.direction; script = script_or_unknown c.args.self.now.plan.now.script_plan.script; map = c.args.self.now.plan.now.script_plan.map; choices = c.args.self.now.plan.now.script_plan.choices; features = c.args.self.now.plan.now.user_features.items; traits = g.S.PlannedShaper.traits c.args.self.now.plan.now.shaper; rules = g.S.hb_ot_shaper_t.rules c.args.self.now.plan.now.shaper c.args.self.now.plan.now.script_plan; spans = g.P.SyllableSpans.span_of c.args.self.now.spans.now } in
    normal_as_set c._hb_ot_shape_normalize.result q (number_set c.invisible.result) (number_set c.not_found_variation_selector.result) c.not_found.result.0 c.args.buffer.now c._hb_ot_shape_normalize.new.buffer c.invisible.ensures c.not_found_variation_selector.ensures c.not_found.ensures c._hb_ot_shape_normalize.ensures
