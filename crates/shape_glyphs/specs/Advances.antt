-- The advance of a glyph, and its origin in a vertical text (OpenType, tables hmtx, vmtx and VORG). Sums are modulo
-- 2^32.
use Rattle.std.specs.Prelude.{ℕ, pos, neg_ℤ, ◌/◌, if◌then◌else◌, nat_le}
use Rattle.buffer_common.specs.declared.direction.Direction.{Direction}
use Rattle.buffer_common.specs.Direction.{is_horizontal}
use Rattle.layout_face.specs.declared.parts.FaceParts.{FaceParts}
use Rattle.layout_face.specs.Glyphs.{width_of, height_of, origin_of}
use Rattle.buffer_glyphs.specs.Items.{Item, Position}
use Rattle.buffer_core.specs.Readings.{View, Read}
use Rattle.layout_offsets.specs.Sums.{minus}
use Rattle.buffer_stages.specs.PositionMaps.{with_positions_mapped}

-- the position of a glyph in a horizontal text: the font's horizontal advance
abbrev pub on_horizontal_line : FaceParts → ℕ → Position → Position
on_horizontal_line font glyph p = record p { x_advance = pos (width_of glyph font) }

-- the position of a glyph in a vertical text: the font's vertical advance, and offsets by its vertical origin
abbrev pub on_vertical_line : FaceParts → ℕ → Position → Position
on_vertical_line font glyph p = record p { y_advance = neg_ℤ (pos (height_of glyph font)); x_offset = minus p.x_offset (pos (width_of glyph font / 2)); y_offset = minus p.y_offset (origin_of glyph font) }

-- the position of a glyph in a text of a direction
abbrev pub on_line : Direction → FaceParts → ℕ → Position → Position
on_line d font glyph p = if is_horizontal d then on_horizontal_line font glyph p else on_vertical_line font glyph p

-- the position of an item: unchanged where its number is above 65,535
abbrev pub default_position : Direction → FaceParts → Item → Position → Position
default_position d font x p = if nat_le x.number 65535 then on_line d font x.number p else p

-- the view with the font's advances (HarfBuzz: hb_ot_position_default)
abbrev pub with_default_positions : FaceParts → View → Read
with_default_positions font v = with_positions_mapped (default_position v.direction font) v
