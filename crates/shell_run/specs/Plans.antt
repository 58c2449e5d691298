-- Plans of a run: its texts have one language and one list of features.
use Rattle.std.specs.Prelude.{⊤, ◌≡◌, List, Option, Some, None}
use Rattle.buffer_common.specs.declared.direction.Direction.{Direction}
use Rattle.buffer_common.specs.declared.script.Script.{Script}
use Rattle.buffer_common.specs.declared.tag.Tag.{Tag}
use Rattle.buffer_common.specs.ScriptTags.{wanted_language_tags}
use Rattle.buffer_tags.specs.LanguageTable.{tags_of_table}
use Rattle.buffer_core.specs.Segment.{after_guess_segment_properties}
use Rattle.buffer_core.specs.Sides.{Sides}
use Rattle.script_plan.specs.declared.plan.hb_ot_shape_plan_t.{hb_ot_shape_plan_t}
use Rattle.script_plan.specs.Plans.{IsPlanned}
use Rattle.script_dispatch.specs.declared.any_shaper.hb_ot_any_shaper_t.{hb_ot_any_shaper_t}
use Rattle.script_dispatch.specs.Requests.{any_kind}
use Rattle.shell_readers.specs.declared.input.RunInput.{RunInput}
use Rattle.shell_readers.specs.declared.options.Options.{Options}

-- the OpenType tags of a run's language, by its tables
abbrev pub run_tags : Options → RunInput → List Tag
run_tags options input = wanted_language_tags (tags_of_table input.tables.languages) options.language

-- a plan is the one for a direction and a script, and for the language and the features of a run, in its font
abbrev pub IsPlanFor : Options → RunInput → Direction → Option Script → hb_ot_shape_plan_t hb_ot_any_shaper_t ⊤ → Type 0
IsPlanFor options input d s plan = IsPlanned any_kind input.face (run_tags options input) d s options.features.items plan

-- a plan is one of a run
abbrev pub IsRunPlan : Options → RunInput → hb_ot_shape_plan_t hb_ot_any_shaper_t ⊤ → Type 0
IsRunPlan options input plan = IsPlanFor options input plan.script_plan.direction plan.script_plan.script plan

-- the plan that is kept, if one is, is one of the run
abbrev pub HasRunPlan : Options → RunInput → Option (hb_ot_shape_plan_t hb_ot_any_shaper_t ⊤) → Type 0
HasRunPlan options input None = ⊤
HasRunPlan options input (Some plan) = IsRunPlan options input plan

-- a plan is the one of a run for a text's direction and script, set or guessed
abbrev pub IsTextPlan : Options → RunInput → Sides → hb_ot_shape_plan_t hb_ot_any_shaper_t ⊤ → Type 0
IsTextPlan options input text plan = IsPlanFor options input (after_guess_segment_properties text).direction (after_guess_segment_properties text).script plan

-- a plan was made for a text's direction and script, set or guessed
pub record Serves (plan : hb_ot_shape_plan_t hb_ot_any_shaper_t ⊤) (text : Sides) : Type 0 where
  pub direction : (after_guess_segment_properties text).direction ≡ plan.script_plan.direction
  pub script : (after_guess_segment_properties text).script ≡ plan.script_plan.script
