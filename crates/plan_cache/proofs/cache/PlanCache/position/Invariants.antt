use Rattle.std.proofs.Common.{length}
use Rattle.std.specs.List.{AllWithin}
use Rattle.plan_cache.specs.Cache.{ServesText}
use Rattle.plan_cache.proofs.cache.PlanCache.position.Given as goal

-- no plan from the index on serves the text
abbrev pub invariant-loop-i : goal.invariant-loop-i
invariant-loop-i g l = AllWithin (λ k. ¬ ServesText (g.L.LanguageTags.tags_of l.languages) l.features l.text k) l.self.plans l.i (length l.self.plans)
