use Rattle.std.proofs.Common.{sym, ap, ◌∙◌}
use Rattle.shape_pipeline.specs.buffer_core.Sides.{Sides}
use Rattle.plan_cache.proofs.Languages.{new_is_cached, new_serves}
use Rattle.plan_cache.proofs.cached.CachedPlan.new.Goals as goal

pub returns-clause-cached : goal.returns-clause-cached
returns-clause-cached g c =
    new_is_cached c.law_plans_serve_their_texts.ensures c.args.face.now (g.L.LanguageTags.tags_of c.args.shape_data.languages.now) c.args.features.now c.args.text.now (record { plan = c.in_ok-boxed.boxed; language = c.in_ok-kept.kept })
    _ _ _ _ c.in_ok-boxed.ensures.ok c.language-language.ensures (c.direction.ensures ∙ sym (ap (λ (t : Sides). t.direction) c.requires)) (c.script.ensures ∙ sym (ap (λ (t : Sides). t.script) c.requires)) c.in_ok-plan.ensures c.in_ok-kept.ensures

pub returns-clause-serves : goal.returns-clause-serves
returns-clause-serves g c =
    new_serves c.law_plans_serve_their_texts.ensures c.args.face.now (g.L.LanguageTags.tags_of c.args.shape_data.languages.now) c.args.features.now c.args.text.now (record { plan = c.in_ok-boxed.boxed; language = c.in_ok-kept.kept })
    _ _ _ _ c.in_ok-boxed.ensures.ok c.language-language.ensures (c.direction.ensures ∙ sym (ap (λ (t : Sides). t.direction) c.requires)) (c.script.ensures ∙ sym (ap (λ (t : Sides). t.script) c.requires)) c.in_ok-plan.ensures
