-- Rows of a glyph with a table's value for it.
use Rattle.std.specs.Prelude.{ℕ, ◌==◌, if◌then◌else◌, List, map, Option, option_map}
use Rattle.buffer_rows.specs.Keys.{row_of}
use Rattle.layout_common.specs.declared.glyph_row.GlyphRow.{GlyphRow}

-- the value of a glyph's row
abbrev pub value_of : {V : Type 0} → ℕ → List (GlyphRow V) → Option V
value_of glyph rows = option_map (λ r. r.value) (row_of (λ r. r.glyph) glyph rows)

-- the rows with another value for a glyph that has one
abbrev pub with_value : {V : Type 0} → ℕ → V → List (GlyphRow V) → List (GlyphRow V)
with_value glyph value rows = map (λ r. if r.glyph == glyph then record { glyph = glyph; value = value } else r) rows
