-- The plans that are kept for texts like the last ones.
use Rattle.buffer_tags.specs.LanguageTable.{tags_of_table}
use Rattle.plan_cache.specs.Cache.{Cache, IsCacheOf}
use Rattle.shell_readers.specs.declared.input.RunInput.{RunInput}

-- the plans that are kept are of the font and the table of languages that were read
abbrev pub HasPlansOf : RunInput → Cache → Type 0
HasPlansOf input plans = IsCacheOf input.face (tags_of_table input.tables.languages) plans
