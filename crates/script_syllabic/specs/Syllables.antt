-- The stages that rewrite each syllable by itself, and those that clear what syllables left (OpenType specification,
-- script development for Khmer, Myanmar and the Universal Shaping Engine).
use Rattle.std.specs.Prelude.{List}
use Rattle.buffer_glyphs.specs.Items.{Item}
use Rattle.buffer_glyphs.specs.Rewriting.{Arrangement}
use Rattle.buffer_core.specs.Readings.{Stage, and_then, always}
use Rattle.buffer_stages.specs.Stages.{with_items_mapped}
use Rattle.buffer_stages.specs.Rewriting.{by_syllable}
use Rattle.buffer_stages.specs.SyllableBuffers.{with_rule}

-- the stage that rewrites each syllable by itself
abbrev pub syllables_by : (List Item → Arrangement) → Stage
syllables_by rule = always (with_rule (by_syllable rule))

-- a stage, followed by one that rewrites each syllable by itself
abbrev pub then_syllables : Stage → (List Item → Arrangement) → Stage
then_syllables stage rule v = and_then (stage v) (syllables_by rule)

-- ---- clearing

-- an item with syllable byte 0
abbrev pub without_syllable : Item → Item
without_syllable x = record x { syllable = 0 }

-- the stage that clears all syllable bytes (HarfBuzz: hb_syllabic_clear_var)
abbrev pub syllables_cleared : Stage
syllables_cleared = always (with_items_mapped without_syllable)
