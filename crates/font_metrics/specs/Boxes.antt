-- The boxes of outlines of TrueType (OpenType, chapter 5, loca and glyf).
use Rattle.std.specs.Prelude.{ℕ, zero, suc, ◌+◌, ◌-◌, ◌*◌, ◌==◌, ◌||◌, nat_lt, ℤ, pos, ◌+ℤ◌, ◌-ℤ◌, int_le, Bool, true, false, if◌then◌else◌, List, [], ◌∷◌, length, Option, Some, None}
use Rattle.std.specs.Option.{option_map}
use Rattle.font_bytes.specs.Words.{word, word_at, long_at, signed_word}
use Rattle.font_metrics.specs.declared.boxes.GlyphBox.{GlyphBox}
use Rattle.font_metrics.specs.declared.boxes.HeaderBox.{HeaderBox}
use Rattle.font_metrics.specs.Advances.{bearing_at}

-- the offset in glyf with an index: Offset32, or Offset16 that is half of it
abbrev pub glyph_offset : List ℕ → Bool → ℕ → Option ℕ
glyph_offset loca true index = long_at loca (4 * index)
glyph_offset loca false index = option_map (λ o. 2 * o) (word_at loca (2 * index))

-- where an outline begins, between an offset and the next one: none where its header isn't before that one, or past glyf
abbrev pub outline_from : List ℕ → Option ℕ → Option ℕ → Option ℕ
outline_from glyf None end = None
outline_from glyf (Some start) None = None
outline_from glyf (Some start) (Some end) = if nat_lt (length glyf) end || nat_lt end start || nat_lt (end - start) 10 then None else Some start

-- where the outline of a glyph begins
abbrev pub outline_at : List ℕ → Bool → List ℕ → ℕ → Option ℕ
outline_at loca is_long glyf g = outline_from glyf (glyph_offset loca is_long g) (glyph_offset loca is_long (g + 1))

-- the lesser of two coordinates
abbrev pub least : ℤ → ℤ → ℤ
least a b = if int_le a b then a else b

-- the greater of two coordinates
abbrev pub greatest : ℤ → ℤ → ℤ
greatest a b = if int_le a b then b else a

-- the sides of a header, the lesser one first
unfoldable pub sides : ℤ → ℤ → ℤ → ℤ → HeaderBox
sides x_min y_min x_max y_max = record { left = least x_min x_max; bottom = least y_min y_max; right = greatest x_min x_max; top = greatest y_min y_max }

-- glyph header: numberOfContours at 0, xMin at 2, yMin at 4, xMax at 6, yMax at 8
unfoldable pub header_box : List ℕ → ℕ → Option HeaderBox
header_box glyf at = if word glyf at == 0 then None else Some (sides (signed_word glyf (at + 2)) (signed_word glyf (at + 4)) (signed_word glyf (at + 6)) (signed_word glyf (at + 8)))

-- the box of the header at an offset, if there is one
abbrev pub box_from : List ℕ → Option ℕ → Option HeaderBox
box_from glyf None = None
box_from glyf (Some at) = header_box glyf at

-- the box that the header of a glyph's outline names
unfoldable pub outline_box : List ℕ → Bool → List ℕ → ℕ → Option HeaderBox
outline_box loca is_long glyf g = box_from glyf (outline_at loca is_long glyf g)

-- a box whose left side is at a bearing
abbrev pub moved_box : HeaderBox → ℤ → GlyphBox
moved_box b left = record { left = left; bottom = b.bottom; right = left +ℤ (b.right -ℤ b.left); top = b.top }

-- the box of a header at the left side bearing; zeros without a header
abbrev pub placed_box : Option HeaderBox → Option ℤ → GlyphBox
placed_box None bearing = record { left = pos 0; bottom = pos 0; right = pos 0; top = pos 0 }
placed_box (Some b) None = moved_box b b.left
placed_box (Some b) (Some left) = moved_box b left

-- the boxes of n glyphs from one on
abbrev pub glyf_boxes : List ℕ → Bool → List ℕ → List ℕ → ℕ → ℕ → ℕ → List GlyphBox
glyf_boxes loca is_long glyf hmtx long g zero = []
glyf_boxes loca is_long glyf hmtx long g (suc count) = placed_box (outline_box loca is_long glyf g) (bearing_at hmtx long g) ∷ glyf_boxes loca is_long glyf hmtx long (g + 1) count
