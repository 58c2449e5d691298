use Rattle.std.proofs.Common.{◌≡◌, [], Ok, inl, refl, sym, ap, subst, ◌∙◌}
use Rattle.std.specs.Prelude.{OnOk}
use Rattle.shape_pipeline.specs.buffer_core.Settings.{after_leave}
use Rattle.shape_pipeline.specs.buffer_core.Sides.{Sides, all_glyphs}
use Rattle.shape_pipeline.specs.Results.{IsResultOf}
use Rattle.plan_cache.proofs.Guessed.{after_guessed, guessed_again, text_guessed}
use Rattle.plan_cache.proofs.Shaped.{direction_of_last, left_text, refused_by_last, shaped_by_last}
use Rattle.plan_cache.proofs.cache.PlanCache.shape_buffer.Goals as goal

pub leave_empty-requires-clause-text : goal.leave_empty-requires-clause-text
leave_empty-requires-clause-text g c = text_guessed c.args.buffer.now c.guess_segment_properties.new.self c.guess_segment_properties.ensures c.requires.text

pub use_plan-requires-clause-guessed : goal.use_plan-requires-clause-guessed
use_plan-requires-clause-guessed g c = guessed_again c.args.buffer.now c.guess_segment_properties.new.self c.guess_segment_properties.ensures

pub shape_buffer-requires : goal.shape_buffer-requires
shape_buffer-requires g c = record { text = text_guessed c.args.buffer.now c.guess_segment_properties.new.self c.guess_segment_properties.ensures c.requires.text }

pub returns-clause-used : goal.returns-clause-used
returns-clause-used g c some =
    inl (after_guessed (g.L.LanguageTags.tags_of c.args.shape_data.languages.now) c.args.features.now c.args.buffer.now c.guess_segment_properties.new.self c.args.self.now c.use_plan.new.self c.guess_segment_properties.ensures c.in-Ok.ensures.used)

pub returns-clause-ok : goal.returns-clause-ok
returns-clause-ok g c =
    shaped_by_last c.law_serving_plans_give_the_texts_shaping.ensures c.args.face.now c.args.shape_data.tables.now (g.L.LanguageTags.tags_of c.args.shape_data.languages.now) (g.P.SyllableSpans.span_of c.args.shape_data.spans.now) c.args.features.now
    c.args.buffer.now c.guess_segment_properties.new.self c.guess_segment_properties.ensures c.use_plan.new.self.plans _ c.last_used-cached.result.now c.in-Ok.ensures.cache c.in-Ok.ensures.last refl c.last_used-cached.ensures c.shape_buffer.result c.shape_buffer.new.buffer (rw c.deref.ensures at c.shape_buffer.ensures.ok)

pub returns-clause-refused : goal.returns-clause-refused
returns-clause-refused g c =
    refused_by_last c.law_serving_plans_give_the_texts_shaping.ensures c.args.face.now c.args.shape_data.tables.now (g.L.LanguageTags.tags_of c.args.shape_data.languages.now) (g.P.SyllableSpans.span_of c.args.shape_data.spans.now) c.args.features.now
    c.args.buffer.now c.guess_segment_properties.new.self c.guess_segment_properties.ensures c.use_plan.new.self.plans _ c.last_used-cached.result.now c.in-Ok.ensures.cache c.in-Ok.ensures.last refl c.last_used-cached.ensures c.shape_buffer.result c.shape_buffer.new.buffer (rw c.deref.ensures at c.shape_buffer.ensures.refused)

pub returns-clause-direction : goal.returns-clause-direction
returns-clause-direction g c =
    direction_of_last c.law_serving_plans_give_the_texts_shaping.ensures c.args.face.now c.args.shape_data.tables.now (g.L.LanguageTags.tags_of c.args.shape_data.languages.now) (g.P.SyllableSpans.span_of c.args.shape_data.spans.now) c.args.features.now
    c.args.buffer.now c.guess_segment_properties.new.self c.guess_segment_properties.ensures c.use_plan.new.self.plans _ c.last_used-cached.result.now c.in-Ok.ensures.cache c.in-Ok.ensures.last refl c.last_used-cached.ensures c.shape_buffer.result c.shape_buffer.new.buffer (rw c.deref.ensures at c.shape_buffer.ensures.direction)

pub returns-then-is_empty-clause-ok : goal.returns-then-is_empty-clause-ok
returns-then-is_empty-clause-ok g c =
    left_text _ c.args.buffer.now c.guess_segment_properties.new.self c.leave_empty.new.buffer c.guess_segment_properties.ensures c.leave_empty.ensures.left (sym c.is_empty.ensures ∙ c.if-is_empty.true)

pub returns-then-is_empty-clause-empty : goal.returns-then-is_empty-clause-empty
returns-then-is_empty-clause-empty g c none = (refl, c.leave_empty.ensures.left ∙ ap after_leave c.guess_segment_properties.ensures)

pub returns-then-is_empty-clause-handed_on : goal.returns-then-is_empty-clause-handed_on
returns-then-is_empty-clause-handed_on g c =
    subst (λ (t : Sides). IsResultOf t c.leave_empty.new.buffer) c.guess_segment_properties.ensures c.leave_empty.ensures.handed_on

pub returns-clause-empty : goal.returns-clause-empty
returns-clause-empty g c =
    subst (λ (t : Sides). all_glyphs t ≡ [] → (c.shape_buffer.result ≡ Ok tt) × (c.shape_buffer.new.buffer ≡ after_leave t)) c.guess_segment_properties.ensures c.shape_buffer.ensures.empty

pub returns-clause-handed_on : goal.returns-clause-handed_on
returns-clause-handed_on g c =
    subst (λ (t : Sides). OnOk c.shape_buffer.result (IsResultOf t c.shape_buffer.new.buffer)) c.guess_segment_properties.ensures c.shape_buffer.ensures.handed_on
