-- The categories of characters for the universal shaper.
use Rattle.std.specs.Prelude.{ℕ, if◌then◌else◌, unwrap_or}
use lib.Utf8.{scalar}
use Rattle.script_categories.specs.declared.category.TheConstants as category
use Rattle.buffer_unicode_tables.specs.Tables.{Tables, universal_of}

-- the category of a character for the universal shaper, `other` for one without a row
abbrev pub universal_category_of : Tables → ℕ → ℕ
universal_category_of t u = if scalar u then unwrap_or (universal_of t u) category.O else category.O
