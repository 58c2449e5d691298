-- Values of glyphs.
use Rattle.std.proofs.Common.{◌≡◌, ◌∙◌, ℕ, List, Option, Some, None, is_some, option_map, refl, ap}
use Rattle.std.specs.Ordering.{nat_cmp}
use Rattle.buffer_rows.specs.Keys.{row_of, row_with}
use Rattle.buffer_rows.proofs.Searched.{row_of_number}
use Rattle.layout_common.specs.declared.glyph_row.GlyphRow.{GlyphRow}
use Rattle.layout_common.specs.Rows.{value_of}

is_mapped : {A B : Type 0} (f : A → B) (o : Option A) → is_some o ≡ is_some (option_map f o)
is_mapped f None = refl
is_mapped f (Some a) = refl

-- a glyph has a value if it has a row
pub is_found : {V : Type 0} (glyph : ℕ) (rows : List (GlyphRow V)) → is_some (row_with nat_cmp (λ r. r.glyph) glyph rows) ≡ is_some (value_of glyph rows)
is_found glyph rows = ap is_some (row_of_number (λ r. r.glyph) rows glyph) ∙ is_mapped (λ r. r.value) (row_of (λ r. r.glyph) glyph rows)
