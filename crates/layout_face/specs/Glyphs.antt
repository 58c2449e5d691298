-- A font's data for characters and glyphs (OpenType, tables cmap, hmtx, vmtx, VORG, post, GDEF).
use Rattle.std.specs.Prelude.{ℕ, ℤ, ◌==◌, ◌&&◌, Bool, false, List, Option, find, option_map, slice_get, unwrap_or}
use Rattle.std.specs.Option.{option_map_or}
use Rattle.buffer_rows.specs.Keys.{row_of}
use Rattle.layout_common.specs.Rows.{value_of}
use Rattle.layout_common.specs.Classes.{class_of}
use Rattle.layout_common.specs.Coverage.{is_covered}
use Rattle.layout_common.specs.declared.class_definition.ClassDefinition.{ClassDefinition}
use Rattle.layout_face.specs.declared.parts.FaceParts.{FaceParts}
use Rattle.layout_face.specs.declared.parts.VariationRow.{VariationRow}

-- the glyph of a character
abbrev pub nominal_glyph : ℕ → FaceParts → Option ℕ
nominal_glyph c font = option_map (λ r. r.glyph) (row_of (λ r. r.character) c font.cmap)

-- the row of a character with a variation selector
abbrev pub row_of_characters : ℕ → ℕ → List VariationRow → Option VariationRow
row_of_characters c selector rows = find (λ r. r.character == c && r.selector == selector) rows

-- the glyph of a character with a variation selector
abbrev pub variation_glyph : ℕ → ℕ → FaceParts → Option ℕ
variation_glyph c selector font = option_map (λ r. r.glyph) (row_of_characters c selector font.variants)

-- the width of a glyph, 0 where the font gives none
abbrev pub width_of : ℕ → FaceParts → ℕ
width_of glyph font = unwrap_or (value_of glyph font.h) 0

-- the height of a glyph, the em where the font gives none
abbrev pub height_of : ℕ → FaceParts → ℕ
height_of glyph font = unwrap_or (value_of glyph font.v) font.upem

-- the y coordinate of a glyph's vertical origin, the ascender where the font gives none
abbrev pub origin_of : ℕ → FaceParts → ℤ
origin_of glyph font = unwrap_or (value_of glyph font.origins) font.ascender

-- the name of a glyph, if it has one
abbrev pub name_of : ℕ → FaceParts → Option (List ℕ)
name_of glyph font = option_map (λ r. r.name) (row_of (λ r. r.glyph) glyph font.names)

-- the class of a glyph, 0 where the font gives no classes
abbrev pub glyph_class : ℕ → Option ClassDefinition → ℕ
glyph_class glyph classes = option_map_or (λ c. class_of glyph c) classes 0

-- whether there is a mark glyph set at an index, and it has the glyph
abbrev pub mark_set_has : ℕ → ℕ → List (List ℕ) → Bool
mark_set_has set glyph sets = option_map_or (λ marks. is_covered glyph marks) (slice_get sets set) false
