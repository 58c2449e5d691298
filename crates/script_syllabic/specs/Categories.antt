-- The categories of characters for the shapers of syllables.
use Rattle.std.specs.Prelude.{ℕ, Option, None, Some, if◌then◌else◌}
use lib.Utf8.{scalar}
use Rattle.script_categories.specs.declared.ot_category_t.TheConstants as ot_category
use Rattle.buffer_unicode_tables.specs.Tables.{Tables, indic_of}
use Rattle.buffer_glyphs.specs.Items.{Item}
use Rattle.buffer_core.specs.Readings.{Stage, always}
use Rattle.buffer_stages.specs.Stages.{with_items_mapped}

-- the category of a row, OT_X where there is none
abbrev pub category_or_none : Option (ℕ × ℕ) → ℕ
category_or_none None = ot_category.OT_X
category_or_none (Some p) = p.0

-- the category of a Khmer or Myanmar character, OT_X for one without a row
abbrev pub listed_category : Tables → ℕ → ℕ
listed_category t u = category_or_none (indic_of t u)

-- the category of a character for the Khmer and Myanmar shapers
abbrev pub ot_category_of : Tables → ℕ → ℕ
ot_category_of t u = if scalar u then listed_category t u else ot_category.OT_X

-- an item with its character's category
abbrev pub with_category : (ℕ → ℕ) → Item → Item
with_category category_of x = record x { category = category_of x.number }

-- the stage that sets each item's category
abbrev pub categories_set : (ℕ → ℕ) → Stage
categories_set category_of = always (with_items_mapped (with_category category_of))
