-- The rules of this stack's shapers.
use Rattle.std.specs.Prelude.{⊤}
use Rattle.script_plan.specs.declared.plan.hb_script_plan_t.{hb_script_plan_t}
use Rattle.script_plan.specs.Rules.{ShaperRules, plain_rules}
use Rattle.script_categories.specs.declared.shaper.hb_ot_script_shaper_t.{hb_ot_script_shaper_t}
use Rattle.script_dispatch.specs.Hooks.{composes_by, masks_set_by, pauses_by, postprocessing_by, preprocessing_by, reorders_by, splits_by}
use Rattle.script_dispatch.specs.declared.any_shaper.hb_ot_any_shaper_t.{hb_ot_any_shaper_t}
use Rattle.script_dispatch.specs.declared.any_shaper.hb_ot_any_shaper_t.TheVariants as any

-- the rules of a shaper of some scripts, for the texts of a plan
abbrev pub script_rules : hb_ot_script_shaper_t → hb_script_plan_t ⊤ → ShaperRules
script_rules shaper plan = record {
  preprocesses = λ font t settings. preprocessing_by shaper plan.map plan.script font t settings;
  splits = λ t. splits_by shaper t;
  composes = λ t. composes_by shaper plan.has_gpos_mark t;
  reorders = reorders_by shaper;
  sets_masks = λ font t settings. masks_set_by shaper plan.map plan.script t settings;
  pauses = λ font t spans settings. pauses_by shaper plan.map plan.script font spans settings;
  postprocesses = λ font settings. postprocessing_by shaper font;
}

-- the rules of a shaper; the default and the dumber one leave a text unchanged
abbrev pub rules_of : hb_ot_any_shaper_t → hb_script_plan_t ⊤ → ShaperRules
rules_of (any.Script shaper) plan = script_rules shaper plan
rules_of _ plan = plain_rules
