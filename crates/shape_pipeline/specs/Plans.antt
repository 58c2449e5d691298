-- Plans that serve a text.
use Rattle.std.specs.Prelude.{ℕ, ⊤, ◌≡◌, List}
use Rattle.buffer_common.specs.declared.tag.Tag.{Tag}
use Rattle.buffer_tags.specs.declared.feature.Feature.{Feature}
use Rattle.layout_face.specs.declared.parts.FaceParts.{FaceParts}
use Rattle.buffer_core.specs.Sides.{Sides}
use Rattle.script_plan.specs.declared.plan.hb_ot_shape_plan_t.{hb_ot_shape_plan_t}
use Rattle.script_plan.specs.Fits.{Fits}
use Rattle.script_plan.specs.Plans.{IsPlanOf as IsPlanOfKind, IsPlanned}
use Rattle.script_dispatch.specs.declared.any_shaper.hb_ot_any_shaper_t.{hb_ot_any_shaper_t}
use Rattle.script_dispatch.specs.Requests.{any_kind}
use Rattle.shape_pipeline.specs.Shaped.{language_tags}

-- a plan is one of a font, with one of this stack's shapers: the plan for the direction, the script, the language tags and the features that it keeps
abbrev pub IsPlanOf : FaceParts → hb_ot_shape_plan_t hb_ot_any_shaper_t ⊤ → Type 0
IsPlanOf font plan = IsPlanOfKind any_kind font plan

-- a plan is the one for a text's direction, script and language tags, and for features, in a font
abbrev pub IsPlanFor : FaceParts → (List ℕ → List Tag) → List Feature → Sides → hb_ot_shape_plan_t hb_ot_any_shaper_t ⊤ → Type 0
IsPlanFor font tags features text plan =
    IsPlanned any_kind font (language_tags tags text) text.direction text.script features plan

-- a plan serves a text with features: it fits the text's direction and script, set or guessed, and it keeps the tags of the text's language and these features
pub record Serves (tags : List ℕ → List Tag) (asked : List Feature) (text : Sides) (plan : hb_ot_shape_plan_t hb_ot_any_shaper_t ⊤) : Type 0 where
  pub fits : Fits plan text
  pub languages : plan.language_tags.items ≡ language_tags tags text
  pub features : plan.user_features.items ≡ asked
