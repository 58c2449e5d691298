-- Laws of the rows of a subtable.
use Rattle.std.specs.Prelude.{◌≡◌, ℕ, true, List}
use Rattle.buffer_rows.specs.Keys.{numbers_rise}
use Rattle.font_cmap.specs.declared.ranges.RangeArray.{RangeArray}
use Rattle.font_cmap.specs.Rows.{ranges_of, rows_of}
use Rattle.font_cmap.specs.Encoded.{row_glyph}
use Rattle.font_cmap.specs.Glyphs.{range_glyph}

-- the glyph of each number's row is that which the rule of the subtable's format gives it, 0 where there is no row
abbrev pub RowsAreExact : Type 0
RowsAreExact = (table : List ℕ) (a : RangeArray) (c : ℕ) → row_glyph (rows_of table 0 (ranges_of table a)) c ≡ range_glyph table a c

-- characters of rows rise, so that each has one row
abbrev pub RowsRise : Type 0
RowsRise = (table : List ℕ) (a : RangeArray) → numbers_rise (λ r. r.character) (rows_of table 0 (ranges_of table a)) ≡ true
