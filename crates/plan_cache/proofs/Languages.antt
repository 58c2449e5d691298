-- A language by the text that is kept of it, and the plan for a text in it.
use Rattle.std.proofs.Common.{ℕ, ◌≡◌, List, [], refl, sym, ap, subst, ◌∙◌}
use Rattle.std.specs.Prelude.{⊤, Option, Some, None}
use Rattle.std.specs.Option.{option_map, option_map_or}
use Rattle.std.specs.String.{string_bytes}
use Rattle.shape_pipeline.specs.buffer_common.declared.direction.Direction.{Direction}
use Rattle.shape_pipeline.specs.buffer_common.declared.language.Language.{Language}
use Rattle.shape_pipeline.specs.buffer_common.declared.script.Script.{Script}
use Rattle.shape_pipeline.specs.buffer_common.declared.tag.Tag.{Tag}
use Rattle.shape_pipeline.specs.buffer_common.Language.{language_text}
use Rattle.shape_pipeline.specs.buffer_common.ScriptTags.{wanted_language_tags}
use Rattle.shape_pipeline.specs.buffer_core.Segment.{after_guess_segment_properties}
use Rattle.shape_pipeline.specs.buffer_core.Sides.{Sides}
use Rattle.shape_pipeline.specs.buffer_tags.declared.feature.Feature.{Feature}
use Rattle.shape_pipeline.specs.layout_face.declared.parts.FaceParts.{FaceParts}
use Rattle.shape_pipeline.specs.script_dispatch.declared.any_shaper.hb_ot_any_shaper_t.{hb_ot_any_shaper_t}
use Rattle.shape_pipeline.specs.script_dispatch.Requests.{any_kind}
use Rattle.shape_pipeline.specs.script_plan.declared.plan.hb_ot_shape_plan_t.{hb_ot_shape_plan_t}
use Rattle.shape_pipeline.specs.script_plan.Plans.{IsPlanned}
use Rattle.shape_pipeline.specs.Laws.{PlansServeTheirTexts}
use Rattle.shape_pipeline.specs.Plans.{IsPlanFor, Serves}
use Rattle.plan_cache.specs.declared.cached.CachedPlan.{CachedPlan}
use Rattle.plan_cache.specs.Cached.{HasTagsOf, IsCachedFor}

tags_by_text : {X : Type 0} (bytes : X → List ℕ) (tags : List ℕ → List Tag) (k : Option X) → option_map_or (λ text. tags (bytes text)) k [] ≡ option_map_or tags (option_map bytes k) []
tags_by_text bytes tags None = refl
tags_by_text bytes tags (Some text) = refl

tags_by_language : (tags : List ℕ → List Tag) (l : Option Language) → wanted_language_tags tags l ≡ option_map_or tags (option_map language_text l) []
tags_by_language tags None = refl
tags_by_language tags (Some l) = refl

-- the tags of the text that is kept of a language are those of the language
pub tags_as_kept : (tags : List ℕ → List Tag) (cached : CachedPlan) (l : Option Language) → option_map string_bytes cached.language ≡ option_map language_text l → HasTagsOf tags cached → cached.plan.value.language_tags.items ≡ wanted_language_tags tags l
tags_as_kept tags cached l same has =
    has ∙ tags_by_text string_bytes tags cached.language ∙ ap (λ text. option_map_or tags text []) same ∙ sym (tags_by_language tags l)

-- a plan that was made for a text's language, and for its direction and script, set or guessed, in a box
module _ (law : PlansServeTheirTexts) (font : FaceParts) (tags : List ℕ → List Tag) (features : List Feature) (text : Sides) (cached : CachedPlan) (l : Option Language) (d : Direction) (s : Option Script) (plan : hb_ot_shape_plan_t hb_ot_any_shaper_t ⊤)
    (boxed : cached.plan.value ≡ plan) (language : l ≡ text.language) (direction : d ≡ (after_guess_segment_properties text).direction) (script : s ≡ (after_guess_segment_properties text).script) (is : IsPlanned any_kind font (wanted_language_tags tags l) d s features plan) where
  is_for : IsPlanFor font tags features (after_guess_segment_properties text) cached.plan.value
  is_for =
      let t = after_guess_segment_properties text in
      let P : hb_ot_shape_plan_t hb_ot_any_shaper_t ⊤ → Type 0 = λ x. IsPlanFor font tags features t x in
      let L : Option Language → Type 0 = λ x. IsPlanned any_kind font (wanted_language_tags tags x) d s features plan in
      let D : Direction → Type 0 = λ x. IsPlanned any_kind font (wanted_language_tags tags text.language) x s features plan in
      let S : Option Script → Type 0 = λ x. IsPlanned any_kind font (wanted_language_tags tags text.language) t.direction x features plan in
      subst P (sym boxed) (subst S script (subst D direction (subst L language is)))

  pub new_serves : Serves tags features text cached.plan.value
  new_serves = (law font tags features text cached.plan.value is_for).1

  pub new_is_cached : option_map string_bytes cached.language ≡ option_map language_text l → IsCachedFor font tags cached
  new_is_cached kept = record {
    plan = (law font tags features text cached.plan.value is_for).0;
    tagged = ap (λ (p : hb_ot_shape_plan_t hb_ot_any_shaper_t ⊤). p.language_tags.items) boxed ∙ is.tags ∙ tags_by_language tags l ∙ ap (λ x. option_map_or tags x []) (sym kept) ∙ sym (tags_by_text string_bytes tags cached.language);
  }
