use Rattle.buffer_tags.specs.LanguageTable.{tags_of_table}
use Rattle.plan_cache.specs.Cache.{IsCacheOf}
use Rattle.tests_pipeline.proofs.cached_plans.each_turn_agrees.Given as goal

-- the cache is of the font and of the table of languages
abbrev pub invariant-loop-turn : goal.invariant-loop-turn
invariant-loop-turn g l = IsCacheOf l.face (tags_of_table l.shape_data.languages.now) l.cache
