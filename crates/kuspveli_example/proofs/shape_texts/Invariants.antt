use Rattle.kuspveli.specs.buffer_tags.LanguageTable.{tags_of_table}
use Rattle.kuspveli.specs.plan_cache.Cache.{IsCacheOf}
use Rattle.kuspveli_example.proofs.shape_texts.Given as goal

-- the cache is of the font and of the table of languages
abbrev pub invariant-loop-text : goal.invariant-loop-text
invariant-loop-text l = IsCacheOf l.face (tags_of_table l.data.languages.now) l.plans
