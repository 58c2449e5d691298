-- The glyph of each character, by the rules of the formats.
use Rattle.std.specs.Prelude.{ℕ, if◌then◌else◌, List}
use Rattle.font_cmap.specs.declared.ranges.RangeArray.{RangeArray}
use Rattle.font_cmap.specs.Rows.{is_character, glyph_among, ranges_of}

-- the glyph that the ranges of a subtable give a number, none where it is no character
abbrev pub range_glyph : List ℕ → RangeArray → ℕ → ℕ
range_glyph table a c = if is_character c then glyph_among table (ranges_of table a) c else 0
