-- Plans of a run, and texts that are shaped by them.
use Rattle.std.proofs.Common.{◌≡◌, List, sym, ap, subst, ◌∙◌}
use Rattle.std.specs.Prelude.{⊤, Option}
use Rattle.buffer_common.specs.declared.direction.Direction.{Direction}
use Rattle.buffer_common.specs.declared.script.Script.{Script}
use Rattle.buffer_common.specs.declared.language.Language.{Language}
use Rattle.buffer_common.specs.declared.tag.Tag.{Tag}
use Rattle.buffer_common.specs.ScriptTags.{wanted_language_tags}
use Rattle.buffer_tags.specs.declared.feature.Feature.{Feature}
use Rattle.buffer_tags.specs.LanguageTable.{tags_of_table}
use Rattle.buffer_core.specs.Segment.{after_guess_segment_properties}
use Rattle.buffer_core.specs.Settings.{with_language}
use Rattle.buffer_core.specs.Sides.{Sides}
use Rattle.buffer_stages.specs.Settings.{text_settings}
use Rattle.layout_face.specs.declared.parts.FaceParts.{FaceParts}
use Rattle.script_plan.specs.declared.plan.hb_ot_shape_plan_t.{hb_ot_shape_plan_t}
use Rattle.script_plan.specs.declared.plan.hb_script_plan_t.{hb_script_plan_t}
use Rattle.script_plan.specs.Plans.{IsPlanned, text_plan}
use Rattle.script_dispatch.specs.declared.any_shaper.hb_ot_any_shaper_t.{hb_ot_any_shaper_t}
use Rattle.script_dispatch.specs.Requests.{any_kind}
use Rattle.script_dispatch.specs.Rules.{rules_of}
use Rattle.script_dispatch.specs.Shapers.{traits_of}
use Rattle.script_categories.specs.LongestMatch.{syllable_at}
use Rattle.shape_pipeline.specs.Shaped.{by_plan, by_shaper}
use Rattle.shell_readers.specs.declared.input.RunInput.{RunInput}
use Rattle.shell_readers.specs.declared.options.Options.{Options}
use Rattle.shell_readers.specs.Tables.{tables_value}
use Rattle.shell_run.specs.Answer.{shaping}
use Rattle.shell_run.specs.Plans.{IsPlanFor, IsRunPlan, IsTextPlan, Serves, run_tags}
use Rattle.shell_run.proofs.Languages.{same_shaping}
use Rattle.shape_pipeline.proofs.Serving.{direction_of_plan, script_of_plan}

module _ (options : Options) (input : RunInput) where
  plan_for_same : (d d' : Direction) (s s' : Option Script) (plan : hb_ot_shape_plan_t hb_ot_any_shaper_t ⊤) → d ≡ d' → s ≡ s' → IsPlanFor options input d s plan → IsPlanFor options input d' s' plan
  plan_for_same d d' s s' plan ed es is =
      let D : Direction → Type 0 = λ x. IsPlanFor options input x s plan in
      let S : Option Script → Type 0 = λ x. IsPlanFor options input d' x plan in
      subst S es (subst D ed is)

  new_plan_for : (d : Direction) (s : Option Script) (l : Option Language) (fs : List Feature) (plan : hb_ot_shape_plan_t hb_ot_any_shaper_t ⊤) → l ≡ options.language → fs ≡ options.features.items
      → IsPlanned any_kind input.face (wanted_language_tags (tags_of_table input.tables.languages) l) d s fs plan → IsPlanFor options input d s plan
  new_plan_for d s l fs plan el ef is =
      let L : Option Language → Type 0 = λ x. IsPlanned any_kind input.face (wanted_language_tags (tags_of_table input.tables.languages) x) d s fs plan in
      let F : List Feature → Type 0 = λ x. IsPlanned any_kind input.face (run_tags options input) d s x plan in
      subst F ef (subst L el is)

  -- a new plan is one of the run, and the one for the text that it was made for
  pub new_plan_of_run : (d : Direction) (s : Option Script) (l : Option Language) (fs : List Feature) (plan : hb_ot_shape_plan_t hb_ot_any_shaper_t ⊤) → l ≡ options.language → fs ≡ options.features.items
      → IsPlanned any_kind input.face (wanted_language_tags (tags_of_table input.tables.languages) l) d s fs plan → IsRunPlan options input plan
  new_plan_of_run d s l fs plan el ef is =
      plan_for_same d plan.script_plan.direction s plan.script_plan.script plan (sym (direction_of_plan _ _ d s _ plan is)) (sym (script_of_plan _ _ d s _ plan is)) (new_plan_for d s l fs plan el ef is)

  pub new_plan_for_text : (text : Sides) (d : Direction) (s : Option Script) (l : Option Language) (fs : List Feature) (plan : hb_ot_shape_plan_t hb_ot_any_shaper_t ⊤)
      → d ≡ (after_guess_segment_properties text).direction → s ≡ (after_guess_segment_properties text).script → l ≡ options.language → fs ≡ options.features.items
      → IsPlanned any_kind input.face (wanted_language_tags (tags_of_table input.tables.languages) l) d s fs plan → IsTextPlan options input text plan
  new_plan_for_text text d s l fs plan ed es el ef is = plan_for_same d _ s _ plan ed es (new_plan_for d s l fs plan el ef is)

  -- a plan of the run that serves a text is the one for it
  pub plan_serves : (plan : hb_ot_shape_plan_t hb_ot_any_shaper_t ⊤) (text : Sides) → IsRunPlan options input plan → Serves plan text → IsTextPlan options input text plan
  plan_serves plan text of serves = plan_for_same _ _ _ _ plan (sym serves.direction) (sym serves.script) of

  -- a text is shaped by the plan for it as it is without a plan, with the run's language
  pub as_planned : (plan : hb_ot_shape_plan_t hb_ot_any_shaper_t ⊤) (text : Sides) → IsTextPlan options input text plan
      → by_plan (traits_of plan.shaper) (rules_of plan.shaper plan.script_plan) plan input.face input.tables.characters (syllable_at input.tables.syllables) (text_settings (after_guess_segment_properties text))
      ≡ shaping (tables_value input.tables) input.face options.features.items (with_language options.language (after_guess_segment_properties text))
  as_planned plan text is =
      let t = after_guess_segment_properties text in
      let tables = input.tables.characters in
      let spans = syllable_at input.tables.syllables in
      let tags = wanted_language_tags (tags_of_table input.tables.languages) options.language in
      let features = options.features.items in
      ap (λ (fs : List Feature). by_shaper plan.shaper plan.script_plan fs input.face tables spans (text_settings t)) is.features
      ∙ ap (λ (p : hb_script_plan_t ⊤). by_shaper plan.shaper p features input.face tables spans (text_settings t)) is.script_plan
      ∙ ap (λ (sh : hb_ot_any_shaper_t). by_shaper sh (text_plan any_kind input.face tags t.direction t.script features) features input.face tables spans (text_settings t)) is.shaper
      ∙ same_shaping input.face tables input.tables.languages spans features (with_language options.language t)
