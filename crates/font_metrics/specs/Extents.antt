-- The extents of glyphs by their boxes.
use Rattle.std.specs.Prelude.{ℕ, ◌||◌, ◌&&◌, not, ℤ, pos, negsuc, ◌-ℤ◌, int_le, Bool, if◌then◌else◌, List, slice_get, Option, Some, None}
use Rattle.buffer_glyphs.specs.declared.names.hb_glyph_extents_t.{hb_glyph_extents_t}
use Rattle.layout_common.specs.declared.glyph_row.GlyphRow.{GlyphRow}
use Rattle.font_metrics.specs.declared.boxes.GlyphBox.{GlyphBox}
use Rattle.font_metrics.specs.Values.{value_rows}

-- a number where 16 bits hold it
unfoldable pub narrow : ℤ → Option ℤ
narrow n = if int_le (negsuc 32767) n && int_le n (pos 32767) then Some n else None

-- extents of numbers, where all are there
abbrev pub extents_with : Option ℤ → Option ℤ → Option ℤ → Option ℤ → Option hb_glyph_extents_t
extents_with None top width height = None
extents_with (Some x) None width height = None
extents_with (Some x) (Some y) None height = None
extents_with (Some x) (Some y) (Some w) None = None
extents_with (Some x) (Some y) (Some w) (Some h) = Some (record { x_bearing = x; y_bearing = y; width = w; height = h })

-- the extents of a box: left and upper side, width, and the height, which runs downwards; none past 16 bits
unfoldable pub extents_of : GlyphBox → Option hb_glyph_extents_t
extents_of b = extents_with (narrow b.left) (narrow b.top) (narrow (b.right -ℤ b.left)) (narrow (b.bottom -ℤ b.top))

-- the extents of a box that may be missing
abbrev pub extents_from : Option GlyphBox → Option hb_glyph_extents_t
extents_from None = None
extents_from (Some b) = extents_of b

-- the extents of a glyph by the boxes of glyphs
abbrev pub extents_at : List GlyphBox → ℕ → Option hb_glyph_extents_t
extents_at boxes g = extents_from (slice_get boxes g)

-- the extents of n glyphs
abbrev pub extent_rows : List GlyphBox → ℕ → List (GlyphRow hb_glyph_extents_t)
extent_rows boxes count = value_rows (extents_at boxes) 0 count
