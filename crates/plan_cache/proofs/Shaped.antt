-- Texts that are shaped by the last plan of a cache.
use Rattle.std.proofs.Common.{ℕ, ◌≡◌, ◌≢◌, ◌==◌, ◌-◌, ◌<◌, true, List, length, sym, ap, subst, ◌∙◌, arith}
use Rattle.std.specs.Prelude.{⊤, Err, IfErr, OnOk, Result, slice_index_or}
use Rattle.std.specs.List.{All}
use Rattle.shape_pipeline.specs.buffer_common.declared.tag.Tag.{Tag}
use Rattle.shape_pipeline.specs.buffer_core.Readings.{Follows}
use Rattle.shape_pipeline.specs.buffer_core.Segment.{after_guess_segment_properties}
use Rattle.shape_pipeline.specs.buffer_core.Settings.{after_leave}
use Rattle.shape_pipeline.specs.buffer_core.Sides.{Sides, all_glyphs, state_of}
use Rattle.shape_pipeline.specs.buffer_glyphs.declared.cause.ShapeCause.{ShapeCause}
use Rattle.shape_pipeline.specs.buffer_glyphs.declared.cause.ShapeCause.TheVariants.{OutOfMemory}
use Rattle.shape_pipeline.specs.buffer_stages.Settings.{text_settings}
use Rattle.shape_pipeline.specs.buffer_tags.declared.feature.Feature.{Feature}
use Rattle.shape_pipeline.specs.buffer_unicode_tables.Tables.{Tables}
use Rattle.shape_pipeline.specs.layout_face.declared.parts.FaceParts.{FaceParts}
use Rattle.shape_pipeline.specs.script_plan.Rules.{Spans}
use Rattle.shape_pipeline.specs.script_dispatch.Rules.{rules_of}
use Rattle.shape_pipeline.specs.script_dispatch.Shapers.{traits_of}
use Rattle.shape_pipeline.specs.Laws.{ServingPlansGiveTheTextsShaping}
use Rattle.shape_pipeline.specs.Shaped.{by_plan, by_text, text_reading}
use Rattle.shape_pipeline.specs.Shaping.{Shaping}
use Rattle.plan_cache.specs.declared.cached.CachedPlan.{CachedPlan}
use Rattle.plan_cache.specs.Cached.{IsCachedFor}
use Rattle.plan_cache.specs.Cache.{EndsServing}
use Rattle.plan_cache.proofs.Guessed.{ends_guessed}
use Rattle.plan_cache.proofs.Order.{last_serves, some_last}
use Rattle.shape_pipeline.proofs.Shaped.{empty_follows}

-- `text` is a text, `guessed` the text as it was guessed
module _ (law : ServingPlansGiveTheTextsShaping) (font : FaceParts) (tables : Tables) (tags : List ℕ → List Tag) (spans : Spans) (features : List Feature) (text guessed : Sides) (is : guessed ≡ after_guess_segment_properties text) (plans : List CachedPlan) (i : ℕ) (k : CachedPlan)
    (all : All (IsCachedFor font tags) plans) (ends : EndsServing tags features guessed plans) (last : i ≡ length plans - 1) (read : k ≡ slice_index_or plans i k) (r : Result ⊤ ShapeCause) (new : Sides) where
  abbrev planned : Sides → Shaping
  planned t = by_plan (traits_of k.plan.value.shaper) (rules_of k.plan.value.shaper k.plan.value.script_plan) k.plan.value font tables spans (text_settings t)

  own : planned (after_guess_segment_properties text) ≡ by_text font tables tags spans features (after_guess_segment_properties text)
  own =
      let serving : EndsServing tags features text plans = ends_guessed tags features text guessed plans is ends in
      let within : i < length plans = omega (arith, some_last tags features text plans serving) in
      let P : CachedPlan → Type 0 = λ x. IsCachedFor font tags x in
      law font tables tags spans features text k.plan.value (subst P (sym read) (all i k within)).plan (last_serves tags features text plans i k serving last read)

  abbrev IsShaped : Sides → Shaping → Type 0
  IsShaped t p = OnOk r (Follows (text_reading p (state_of t)) (state_of t) (state_of new))

  abbrev IsRefused : Sides → Shaping → Type 0
  IsRefused t p = IfErr r (λ (e : ShapeCause). e ≢ OutOfMemory → text_reading p (state_of t) ≡ Err e)

  pub shaped_by_last : IsShaped guessed (planned guessed) → IsShaped (after_guess_segment_properties text) (by_text font tables tags spans features (after_guess_segment_properties text))
  shaped_by_last h = subst (IsShaped (after_guess_segment_properties text)) own (subst (λ t. IsShaped t (planned t)) is h)

  pub refused_by_last : IsRefused guessed (planned guessed) → IsRefused (after_guess_segment_properties text) (by_text font tables tags spans features (after_guess_segment_properties text))
  refused_by_last h = subst (IsRefused (after_guess_segment_properties text)) own (subst (λ t. IsRefused t (planned t)) is h)

  -- the plan has the direction of the text
  pub direction_of_last : (k.plan.value.script_plan.direction ≡ guessed.direction → OnOk r (new.direction ≡ guessed.direction)) → OnOk r (new.direction ≡ (after_guess_segment_properties text).direction)
  direction_of_last keeps =
      let serving : EndsServing tags features text plans = ends_guessed tags features text guessed plans is ends in
      let line : k.plan.value.script_plan.direction ≡ guessed.direction = sym (last_serves tags features text plans i k serving last read).fits.direction ∙ ap (λ (x : Sides). x.direction) (sym is) in
      let P : Sides → Type 0 = λ t. OnOk r (new.direction ≡ t.direction) in
      subst P is (keeps line)

-- a text without characters is left
pub left_text : (p : Shaping) (text guessed new : Sides) → guessed ≡ after_guess_segment_properties text → new ≡ after_leave guessed → (length (all_glyphs guessed) == 0) ≡ true
    → Follows (text_reading p (state_of (after_guess_segment_properties text))) (state_of (after_guess_segment_properties text)) (state_of new)
left_text p text guessed new is left empty =
    let P : Sides → Type 0 = λ t. Follows (text_reading p (state_of t)) (state_of t) (state_of new) in
    subst P is (empty_follows p guessed new left empty)
