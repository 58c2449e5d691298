-- Plans that serve a text give its `Shaping`.
use Rattle.std.proofs.Common.{ℕ, ◌≡◌, List, refl, sym, ap, subst, ◌∙◌}
use Rattle.std.specs.Prelude.{⊤, Option, Some, None, codes}
use Rattle.buffer_common.specs.declared.direction.Direction.{Direction}
use Rattle.buffer_common.specs.declared.direction.Direction.TheVariants.{Invalid, LeftToRight, RightToLeft, TopToBottom, BottomToTop}
use Rattle.buffer_common.specs.declared.script.Script.{Script}
use Rattle.buffer_common.specs.declared.script.TheConstants.{UNKNOWN}
use Rattle.buffer_common.specs.declared.tag.Tag.{Tag}
use Rattle.buffer_tags.specs.declared.feature.Feature.{Feature}
use Rattle.layout_face.specs.declared.parts.FaceParts.{FaceParts}
use Rattle.layout_map.specs.Compiled.{OtMapValue}
use Rattle.layout_map.specs.Masks.{has_mask}
use Rattle.buffer_unicode_tables.specs.Tables.{Tables}
use Rattle.buffer_core.specs.Segment.{after_guess_segment_properties}
use Rattle.buffer_core.specs.Sides.{Sides}
use Rattle.buffer_stages.specs.Settings.{TextSettings, text_settings}
use Rattle.script_plan.specs.declared.plan.hb_ot_shape_plan_t.{hb_ot_shape_plan_t}
use Rattle.script_plan.specs.declared.plan.hb_script_plan_t.{hb_script_plan_t}
use Rattle.script_plan.specs.Fits.{script_or_unknown}
use Rattle.script_plan.specs.Plans.{IsPlanned, choices, planned_map, planned_shaper, text_map, text_plan}
use Rattle.script_plan.specs.Rules.{Spans}
use Rattle.script_dispatch.specs.declared.any_shaper.hb_ot_any_shaper_t.{hb_ot_any_shaper_t}
use Rattle.script_dispatch.specs.declared.any_shaper.hb_ot_any_shaper_t.TheVariants as any
use Rattle.script_dispatch.specs.Requests.{any_kind}
use Rattle.script_dispatch.specs.Rules.{rules_of}
use Rattle.script_dispatch.specs.Shapers.{traits_of}
use Rattle.shape_pipeline.specs.Plans.{IsPlanFor, IsPlanOf, Serves}
use Rattle.shape_pipeline.specs.Shaped.{by_plan, by_shaper, by_text, language_tags}
use Rattle.shape_pipeline.specs.Shaping.{Shaping}

-- ---- the plan for a text is one of the font

pub direction_of_plan : (font : FaceParts) (languages : List Tag) (d : Direction) (s : Option Script) (features : List Feature) (plan : hb_ot_shape_plan_t hb_ot_any_shaper_t ⊤)
    → IsPlanned any_kind font languages d s features plan → plan.script_plan.direction ≡ d
unfolding text_plan
direction_of_plan font languages d s features plan is = ap (λ (p : hb_script_plan_t ⊤). p.direction) is.script_plan

pub script_of_plan : (font : FaceParts) (languages : List Tag) (d : Direction) (s : Option Script) (features : List Feature) (plan : hb_ot_shape_plan_t hb_ot_any_shaper_t ⊤)
    → IsPlanned any_kind font languages d s features plan → plan.script_plan.script ≡ s
unfolding text_plan
script_of_plan font languages d s features plan is = ap (λ (p : hb_script_plan_t ⊤). p.script) is.script_plan

-- a plan for one direction, script, language tags and features is one for others that are the same
planned_for_same : (font : FaceParts) (l k : List Tag) (d e : Direction) (s t : Option Script) (fs gs : List Feature) (plan : hb_ot_shape_plan_t hb_ot_any_shaper_t ⊤)
    → l ≡ k → d ≡ e → s ≡ t → fs ≡ gs → IsPlanned any_kind font l d s fs plan → IsPlanned any_kind font k e t gs plan
planned_for_same font l k d e s t fs gs plan languages direction script features is =
    let L : List Tag → Type 0 = λ x. IsPlanned any_kind font x d s fs plan in
    let D : Direction → Type 0 = λ x. IsPlanned any_kind font k x s fs plan in
    let S : Option Script → Type 0 = λ x. IsPlanned any_kind font k e x fs plan in
    let F : List Feature → Type 0 = λ x. IsPlanned any_kind font k e t x plan in
    subst F features (subst S script (subst D direction (subst L languages is)))

pub plans_serve_their_texts : (font : FaceParts) (tags : List ℕ → List Tag) (features : List Feature) (text : Sides) (plan : hb_ot_shape_plan_t hb_ot_any_shaper_t ⊤)
    → IsPlanFor font tags features (after_guess_segment_properties text) plan → IsPlanOf font plan × Serves tags features text plan
plans_serve_their_texts font tags features text plan is =
    let t = after_guess_segment_properties text in
    let l = language_tags tags text in
    let direction = direction_of_plan font l t.direction t.script features plan is in
    let script = script_of_plan font l t.direction t.script features plan is in (
      planned_for_same font l plan.language_tags.items t.direction plan.script_plan.direction t.script plan.script_plan.script features plan.user_features.items plan (sym is.tags) (sym direction) (sym script) (sym is.features) is,
      record { fits = record { direction = sym direction; script = ap script_or_unknown (sym script) }; languages = is.tags; features = is.features },
    )

-- ---- what a text is shaped by, by direction, script, language tags and features

module _ (font : FaceParts) (tables : Tables) (spans : Spans) (settings : TextSettings) where
  abbrev shaped_for : List Tag → Direction → Option Script → List Feature → Shaping
  shaped_for languages d s features =
      by_shaper (planned_shaper any_kind font languages d s) (text_plan any_kind font languages d s features) features font tables spans settings

  -- a plan of the font gives what its fields give
  by_its_fields : (plan : hb_ot_shape_plan_t hb_ot_any_shaper_t ⊤) → IsPlanOf font plan
      → by_plan (traits_of plan.shaper) (rules_of plan.shaper plan.script_plan) plan font tables spans settings
      ≡ shaped_for plan.language_tags.items plan.script_plan.direction plan.script_plan.script plan.user_features.items
  by_its_fields plan is =
      let l = plan.language_tags.items in let fs = plan.user_features.items in let d = plan.script_plan.direction in let s = plan.script_plan.script in
      ap (λ p. by_shaper plan.shaper p fs font tables spans settings) is.script_plan
      ∙ ap (λ sh. by_shaper sh (text_plan any_kind font l d s fs) fs font tables spans settings) is.shaper

  module _ (languages : List Tag) (d : Direction) (features : List Feature) where
    -- a text without a script has the default shaper, and so has one of the script `UNKNOWN`
    unknown_shaper : planned_shaper any_kind font languages d (Some UNKNOWN) ≡ any.Default
    unfolding planned_shaper
    unknown_shaper = elim d as (λ x. planned_shaper any_kind font languages x (Some UNKNOWN) ≡ any.Default) [
      | Invalid ↦ refl
      | LeftToRight ↦ refl
      | RightToLeft ↦ refl
      | TopToBottom ↦ refl
      | BottomToTop ↦ refl
    ]

    abbrev map_by : hb_ot_any_shaper_t → Option Script → OtMapValue
    map_by shaper s = planned_map (any_kind.asking shaper) font languages d s features

    abbrev shaped_by : hb_ot_any_shaper_t → OtMapValue → Option Script → Shaping
    shaped_by shaper m s = by_shaper shaper (record { direction = d; script = s; map = m; has_gpos_mark = has_mask (codes "mark") m; choices = choices (traits_of shaper) font m; plan_data = tt }) features font tables spans settings

    of_its_shaper : (s : Option Script) → shaped_for languages d s features ≡ shaped_by (planned_shaper any_kind font languages d s) (map_by (planned_shaper any_kind font languages d s) s) s
    unfolding text_plan text_map
    of_its_shaper s = refl

    without_script : planned_shaper any_kind font languages d None ≡ any.Default
    unfolding planned_shaper
    without_script = refl

    same_map : map_by any.Default None ≡ map_by any.Default (Some UNKNOWN)
    same_map = refl

    same_shaped : shaped_for languages d None features ≡ shaped_for languages d (Some UNKNOWN) features
    same_shaped =
        of_its_shaper None
        ∙ ap (λ sh. shaped_by sh (map_by sh None) None) without_script
        ∙ ap (λ m. shaped_by any.Default m None) same_map
        ∙ sym (ap (λ sh. shaped_by sh (map_by sh (Some UNKNOWN)) (Some UNKNOWN)) unknown_shaper)
        ∙ sym (of_its_shaper (Some UNKNOWN))

    -- no script counts as `UNKNOWN`
    shaped_for_same : (s t : Option Script) → script_or_unknown s ≡ script_or_unknown t → shaped_for languages d s features ≡ shaped_for languages d t features
    shaped_for_same None None e = refl
    shaped_for_same None (Some t) e = same_shaped ∙ ap (λ x. shaped_for languages d (Some x) features) e
    shaped_for_same (Some s) None e = ap (λ x. shaped_for languages d (Some x) features) e ∙ sym same_shaped
    shaped_for_same (Some s) (Some t) e = ap (λ x. shaped_for languages d (Some x) features) e

pub serving_plans_give : (font : FaceParts) (tables : Tables) (tags : List ℕ → List Tag) (spans : Spans) (features : List Feature) (text : Sides) (plan : hb_ot_shape_plan_t hb_ot_any_shaper_t ⊤) → IsPlanOf font plan → Serves tags features text plan
    → by_plan (traits_of plan.shaper) (rules_of plan.shaper plan.script_plan) plan font tables spans (text_settings (after_guess_segment_properties text)) ≡ by_text font tables tags spans features (after_guess_segment_properties text)
serving_plans_give font tables tags spans features text plan is serves =
    let t = after_guess_segment_properties text in
    let settings = text_settings t in
    let l = language_tags tags text in
    let d = plan.script_plan.direction in let s = plan.script_plan.script in
    by_its_fields font tables spans settings plan is
    ∙ ap (λ x. shaped_for font tables spans settings x d s plan.user_features.items) serves.languages
    ∙ ap (λ x. shaped_for font tables spans settings l d s x) serves.features
    ∙ ap (λ x. shaped_for font tables spans settings l x s features) (sym serves.fits.direction)
    ∙ shaped_for_same font tables spans settings l t.direction features s t.script (sym serves.fits.script)
