-- The position of a mark at a box, by its combining class (Unicode Character Database, Canonical_Combining_Class). Sums
-- are modulo 2^32.
use Rattle.std.specs.Prelude.{ℕ, ℤ, pos, ◌&&◌, Bool, not, int_lt, if◌then◌else◌, [], ◌∷◌, Option, Some, None}
use Rattle.std.specs.Int.RustNames.{int_div}
use Rattle.buffer_common.specs.declared.direction.Direction.{Direction}
use Rattle.buffer_common.specs.Direction.{is_forward, is_horizontal}
use Rattle.buffer_glyphs.specs.declared.names.hb_glyph_extents_t.{hb_glyph_extents_t}
use Rattle.buffer_glyphs.specs.Items.{Position}
use Rattle.layout_offsets.specs.Sums.{plus, minus}
use Rattle.shape_fallback.specs.Classes.{is_one_of}
use Rattle.shape_fallback.specs.declared.boxes.Stacked.{Stacked}
use Rattle.shape_fallback.specs.declared.boxes.Marked.{Marked}

-- glyph extents: left and upper edge, width to the right, and height, which is negative where the box extends below its
-- upper edge
abbrev pub Box : Type 0
Box = hb_glyph_extents_t

-- ---- classes: attached ones are below to the left (200), below (202), above (214), above to the right (216); the
-- others are below to the left (218), below (220), below to the right (222), above to the left (228), above (230),
-- above to the right (232), and below (233) and above (234) two letters

-- a class below the base
abbrev pub is_below : ℕ → Bool
is_below class = is_one_of (200 ∷ 202 ∷ 218 ∷ 220 ∷ 222 ∷ 233 ∷ []) class

-- a class above the base
abbrev pub is_above : ℕ → Bool
is_above class = is_one_of (214 ∷ 216 ∷ 228 ∷ 230 ∷ 232 ∷ 234 ∷ []) class

-- an attached class
abbrev pub is_attached : ℕ → Bool
is_attached class = is_one_of (200 ∷ 202 ∷ 214 ∷ 216 ∷ []) class

-- a class at the left of the base
abbrev pub is_at_left : ℕ → Bool
is_at_left class = is_one_of (200 ∷ 218 ∷ 228 ∷ []) class

-- a class at the right of the base
abbrev pub is_at_right : ℕ → Bool
is_at_right class = is_one_of (216 ∷ 222 ∷ 232 ∷ []) class

-- a class below or above two letters
abbrev pub is_double : ℕ → Bool
is_double class = is_one_of (233 ∷ 234 ∷ []) class

-- ---- along x

-- the x coordinate where the next letter begins
abbrev pub next_at : Bool → Box → ℤ
next_at forward b = if forward then b.width else pos 0

-- the offset that centers a mark of a double class over that coordinate
abbrev pub double_x : Bool → Box → Box → ℤ
double_x forward b m = minus (minus (plus b.x_bearing (next_at forward b)) (int_div m.width (pos 2))) m.x_bearing

-- the offset that aligns the left edges
abbrev pub left_x : Box → Box → ℤ
left_x b m = minus b.x_bearing m.x_bearing

-- the offset that aligns the right edges
abbrev pub right_x : Box → Box → ℤ
right_x b m = minus (minus (plus b.x_bearing b.width) m.width) m.x_bearing

-- the offset that centers the mark
abbrev pub middle_x : Box → Box → ℤ
middle_x b m = minus (plus b.x_bearing (int_div (minus b.width m.width) (pos 2))) m.x_bearing

-- the horizontal offset of a mark of a class
abbrev pub mark_x : Direction → ℕ → Box → Box → ℤ
mark_x d class b m =
    if is_double class && is_horizontal d then double_x (is_forward d) b m
    else if is_at_left class then left_x b m
    else if is_at_right class then right_x b m
    else middle_x b m

-- ---- along y

-- a box extended downwards
abbrev pub lower : ℤ → Box → Box
lower a b = record b { height = minus b.height a }

-- a box extended upwards
abbrev pub raised_box : ℤ → Box → Box
raised_box a b = record b { y_bearing = plus b.y_bearing a; height = minus b.height a }

-- two numbers are both positive, or neither is
abbrev pub is_same_side : ℤ → ℤ → Bool
is_same_side a b = if int_lt (pos 0) a then int_lt (pos 0) b else not (int_lt (pos 0) b)

-- a box extended downwards by a mark below it
abbrev pub with_below : Box → Box → Box
with_below m b = record b { height = plus b.height m.height }

-- a box extended upwards by a mark above it
abbrev pub with_above : Box → Box → Box
with_above m b = record b { y_bearing = minus b.y_bearing m.height; height = plus b.height m.height }

-- a mark below is never shifted up: the box is extended down to it instead
abbrev pub stacked_below : ℤ → Box → ℤ → Box → Stacked
stacked_below gap m y b = if is_same_side gap y then record { y = pos 0; extents = with_below m (lower y b) } else record { y = y; extents = with_below m b }

-- a mark below the box, shifted down
abbrev pub stacked_from_below : ℤ → Box → Box → Stacked
stacked_from_below gap m b = stacked_below gap m (minus (plus b.y_bearing b.height) m.y_bearing) b

-- a mark of a class below, at a gap unless it is attached
abbrev pub below : ℤ → Bool → Box → Box → Stacked
below gap attached b m = stacked_from_below gap m (if attached then b else lower gap b)

-- half of a downward shift, as an upward one
abbrev pub half_up : ℤ → ℤ
half_up y = int_div (minus (pos 0) y) (pos 2)

-- a mark above by its vertical shift: a downward shift is halved, and the box is raised by as much
abbrev pub stacked_above : ℤ → Box → ℤ → Box → Stacked
stacked_above gap m y b =
    if is_same_side gap y then record { y = y; extents = with_above m b }
    else record { y = plus y (half_up y); extents = with_above m (raised_box (half_up y) b) }

-- a mark above the box, shifted up
abbrev pub stacked_from_above : ℤ → Box → Box → Stacked
stacked_from_above gap m b = stacked_above gap m (minus b.y_bearing (plus m.y_bearing m.height)) b

-- a mark of a class above, at a gap unless it is attached
abbrev pub above : ℤ → Bool → Box → Box → Stacked
above gap attached b m = stacked_from_above gap m (if attached then b else raised_box gap b)

-- the vertical shift of a mark, by whether its class is below, above and attached; other classes have none
abbrev pub stacked_mark_by : Bool → Bool → Bool → ℤ → Box → Box → Stacked
stacked_mark_by stands_below stands_above attached gap b m =
    if stands_below then below gap attached b m
    else if stands_above then above gap attached b m
    else record { y = pos 0; extents = b }

-- the vertical shift of a mark of a class
abbrev pub stacked_mark : ℤ → ℕ → Box → Box → Stacked
stacked_mark gap class b m = stacked_mark_by (is_below class) (is_above class) (is_attached class) gap b m

-- ---- a mark

-- a mark positioned at a box, at a gap unless it is attached, with the box for the next one; a mark without extents is
-- unchanged (HarfBuzz: position_mark)
abbrev pub mark_at_box : ℤ → Direction → ℕ → Option Box → Box → Position → Marked
mark_at_box gap d class None b p = record { position = p; extents = b }
mark_at_box gap d class (Some m) b p = record {
  position = record p { x_offset = mark_x d class b m; y_offset = (stacked_mark gap class b m).y };
  extents = (stacked_mark gap class b m).extents;
}
