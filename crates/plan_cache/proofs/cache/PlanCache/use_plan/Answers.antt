use Rattle.plan_cache.proofs.Order.{all_with_plan_used, all_with_plan_added}
use Rattle.plan_cache.specs.Cached.{IsCachedFor}
use Rattle.plan_cache.proofs.cache.PlanCache.use_plan.Goals as goal

pub position-requires-clause-tags : goal.position-requires-clause-tags
position-requires-clause-tags g c = λ k d within. (c.requires.plans k d within).tagged

pub returns-in-Some-clause-cache : goal.returns-in-Some-clause-cache
returns-in-Some-clause-cache g c =
    all_with_plan_used (IsCachedFor c.args.face.now (g.L.LanguageTags.tags_of c.args.shape_data.languages.now)) c.args.self.now c.use_again.new.self c.in-Some.i c.use_again.ensures c.requires.plans

pub returns-clause-cache : goal.returns-clause-cache
returns-clause-cache g c =
    all_with_plan_added (IsCachedFor c.args.face.now (g.L.LanguageTags.tags_of c.args.shape_data.languages.now)) c.args.self.now c.add.new.self c.in_ok-cached.cached c.in_ok-add.ensures.ok c.requires.plans c.in_ok-cached.ensures.cached
