-- The `Shaping` of a text, and its reading.
use Rattle.std.specs.Prelude.{ℕ, ⊤, ◌==◌, if◌then◌else◌, List, [], length, Ok}
use Rattle.buffer_common.specs.declared.tag.Tag.{Tag}
use Rattle.buffer_common.specs.ScriptTags.{wanted_language_tags}
use Rattle.buffer_tags.specs.declared.feature.Feature.{Feature}
use Rattle.layout_face.specs.declared.parts.FaceParts.{FaceParts}
use Rattle.buffer_unicode_tables.specs.Tables.{Tables}
use Rattle.buffer_core.specs.Readings.{Reading, BufferState}
use Rattle.buffer_core.specs.Sides.{Sides}
use Rattle.buffer_stages.specs.Settings.{TextSettings, text_settings}
use Rattle.script_plan.specs.declared.plan.hb_ot_shape_plan_t.{hb_ot_shape_plan_t}
use Rattle.script_plan.specs.declared.plan.hb_script_plan_t.{hb_script_plan_t}
use Rattle.script_plan.specs.Fits.{script_or_unknown}
use Rattle.script_plan.specs.Plans.{planned_shaper, text_plan}
use Rattle.script_plan.specs.Traits.{ShaperTraits}
use Rattle.script_plan.specs.Rules.{ShaperRules, Spans}
use Rattle.script_dispatch.specs.declared.any_shaper.hb_ot_any_shaper_t.{hb_ot_any_shaper_t}
use Rattle.script_dispatch.specs.Requests.{any_kind}
use Rattle.script_dispatch.specs.Rules.{rules_of}
use Rattle.script_dispatch.specs.Shapers.{traits_of}
use Rattle.shape_pipeline.specs.Limits.{unshaped_text}
use Rattle.shape_pipeline.specs.Reading.{reading}
use Rattle.shape_pipeline.specs.Shaping.{Shaping}

-- the `Shaping` by a plan's fields and a shaper's choices and rules
abbrev pub by_script_plan : {D : Type 0} → ShaperTraits → ShaperRules → hb_script_plan_t D → List Feature → FaceParts → Tables → Spans → TextSettings → Shaping
by_script_plan traits rules plan features font tables spans settings = record {
  font = font;
  tables = tables;
  settings = settings;
  direction = plan.direction;
  script = script_or_unknown plan.script;
  map = plan.map;
  choices = plan.choices;
  features = features;
  traits = traits;
  rules = rules;
  spans = spans;
}

-- the `Shaping` by a plan
abbrev pub by_plan : {S D : Type 0} → ShaperTraits → ShaperRules → hb_ot_shape_plan_t S D → FaceParts → Tables → Spans → TextSettings → Shaping
by_plan traits rules plan = by_script_plan traits rules plan.script_plan plan.user_features.items

-- the `Shaping` by a plan of one of this stack's shapers
abbrev pub by_shaper : hb_ot_any_shaper_t → hb_script_plan_t ⊤ → List Feature → FaceParts → Tables → Spans → TextSettings → Shaping
by_shaper shaper plan = by_script_plan (traits_of shaper) (rules_of shaper plan) plan

-- the tags of a text's language
abbrev pub language_tags : (List ℕ → List Tag) → Sides → List Tag
language_tags tags s = wanted_language_tags tags s.language

-- the `Shaping` of a text whose language has the given tags: by the plan for its direction, script, language and
-- features
abbrev pub by_tags : FaceParts → Tables → List Tag → Spans → List Feature → Sides → Shaping
by_tags font tables tags spans features s =
    by_shaper (planned_shaper any_kind font tags s.direction s.script) (text_plan any_kind font tags s.direction s.script features) features font tables spans (text_settings s)

-- the `Shaping` of a text without a plan
abbrev pub by_text : FaceParts → Tables → (List ℕ → List Tag) → Spans → List Feature → Sides → Shaping
by_text font tables tags spans features s = by_tags font tables (language_tags tags s) spans features s

-- a text without characters stays as it is, with the limits as at first; another is read as it is shaped
unfoldable pub text_reading : Shaping → BufferState → Reading
text_reading p run = if length run.view.items == 0 then Ok (unshaped_text run.view) else reading p run
