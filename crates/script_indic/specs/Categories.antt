-- The categories and syllabic positions of characters for the Indic shaper.
use Rattle.std.specs.Prelude.{ℕ, if◌then◌else◌, unwrap_or}
use lib.Utf8.{scalar}
use Rattle.script_categories.specs.declared.ot_category_t.TheConstants as category
use Rattle.script_categories.specs.declared.ot_position_t.TheConstants as position
use Rattle.buffer_unicode_tables.specs.Tables.{Tables, indic_of}
use Rattle.buffer_glyphs.specs.Items.{Item}
use Rattle.buffer_core.specs.Readings.{Stage, always}
use Rattle.buffer_stages.specs.Stages.{with_items_mapped}

-- the category and the syllabic position of a number that has no row
abbrev pub no_row : ℕ × ℕ
no_row = (category.OT_X, position.POS_END)

-- the category and the syllabic position of a character by its row in the tables
abbrev pub indic_row : Tables → ℕ → ℕ × ℕ
indic_row t u = if scalar u then unwrap_or (indic_of t u) no_row else no_row

-- an item with its character's category, and its syllabic position in the field `auxiliary`
abbrev pub with_properties : Tables → Item → Item
with_properties t x = record x { category = (indic_row t x.number).0; auxiliary = (indic_row t x.number).1 }

-- the stage that sets each item's category and syllabic position (HarfBuzz: setup_masks_indic)
abbrev pub properties_set : Tables → Stage
properties_set t = always (with_items_mapped (with_properties t))
