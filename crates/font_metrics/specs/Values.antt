-- Rows of glyphs that have a value.
use Rattle.std.specs.Prelude.{ℕ, zero, suc, ◌+◌, List, [], ◌∷◌, ◌++◌, Option, Some, None}
use Rattle.layout_common.specs.declared.glyph_row.GlyphRow.{GlyphRow}

-- the row of a glyph that has a value
abbrev pub value_row : {V : Type 0} → ℕ → Option V → List (GlyphRow V)
value_row g None = []
value_row g (Some v) = record { glyph = g; value = v } ∷ []

-- the rows of n glyphs from one on, by their values
abbrev pub value_rows : {V : Type 0} → (ℕ → Option V) → ℕ → ℕ → List (GlyphRow V)
value_rows value g zero = []
value_rows value g (suc count) = value_row g (value g) ++ value_rows value (g + 1) count
