-- Positions whose advances are replaced by the sums up to them: the distance between two glyphs is then a difference.
use Rattle.std.specs.Int.{int_wrap, w32}
use Rattle.std.specs.Prelude.{ℕ, pos, ◌≡◌, ◌-◌, ◌==◌, Bool, true, false, nat_lt, if◌then◌else◌, List, [], ◌∷◌}
use Rattle.buffer_glyphs.specs.Items.{Position}
use Rattle.buffer_common.specs.declared.direction.Direction.{Direction}
use Rattle.buffer_common.specs.Direction.{is_forward, is_horizontal}
use Rattle.layout_offsets.specs.declared.advance_sums.Pen.{Pen}
use Rattle.layout_offsets.specs.FollowedLinks.{plus, minus, offset_by, child_drawn, drawn_position, Drawing}
use Rattle.layout_offsets.specs.Links.{position_at}

-- the pen at the beginning
abbrev pub pen_down : Pen
pen_down = record { x = pos 0; y = pos 0 }

-- the pen after a glyph
abbrev pub pen_after : Pen → Position → Pen
pen_after pen p = record { x = plus pen.x p.x_advance; y = plus pen.y p.y_advance }

-- the advances of a position as a pen
abbrev pub pen_of : Position → Pen
pen_of p = record { x = p.x_advance; y = p.y_advance }

-- a position with a pen as its advances
abbrev pub with_pen : Pen → Position → Position
with_pen pen p = record p { x_advance = pen.x; y_advance = pen.y }

-- each advance replaced by the sum up to it
abbrev pub advance_sums_from : Pen → List Position → List Position
advance_sums_from pen [] = []
advance_sums_from pen (p ∷ ps) = with_pen (pen_after pen p) p ∷ advance_sums_from (pen_after pen p) ps

-- all advances replaced by the sums up to them
abbrev pub advance_sums : List Position → List Position
advance_sums ps = advance_sums_from pen_down ps

-- the distance from one pen to another
abbrev pub pen_way : Pen → Pen → Pen
pen_way from to = record { x = minus to.x from.x; y = minus to.y from.y }

-- each sum replaced by the difference from the one before
abbrev pub advances_of_sums_from : Pen → List Position → List Position
advances_of_sums_from pen [] = []
advances_of_sums_from pen (p ∷ ps) = with_pen (pen_way pen (pen_of p)) p ∷ advances_of_sums_from (pen_of p) ps

-- all sums replaced by their differences
abbrev pub advances_of_sums : List Position → List Position
advances_of_sums ps = advances_of_sums_from pen_down ps

-- the pen before a glyph, among sums
abbrev pub pen_before : ℕ → List Position → Pen
pen_before i ps = if i == 0 then pen_down else pen_of (position_at (i - 1) ps)

-- a position with a distance subtracted from its offsets
abbrev pub back_by : Pen → Position → Position
back_by way p = record p { x_offset = minus p.x_offset way.x; y_offset = minus p.y_offset way.y }

-- a position with a distance added to its offsets
abbrev pub on_by : Pen → Position → Position
on_by way p = record p { x_offset = plus p.x_offset way.x; y_offset = plus p.y_offset way.y }

-- a mark on a parent before it: forward the pen moves back from before the mark to before the parent, backward on from
-- after the parent to after the mark
abbrev pub after_parent : Bool → ℕ → ℕ → List Position → Position
after_parent true i j ps = back_by (pen_way (pen_before j ps) (pen_before i ps)) (offset_by (position_at j ps) (position_at i ps))
after_parent false i j ps = on_by (pen_way (pen_of (position_at j ps)) (pen_of (position_at i ps))) (offset_by (position_at j ps) (position_at i ps))

-- a mark drawn, among sums
abbrev pub mark_by_sums : Bool → ℕ → ℕ → List Position → Position
mark_by_sums forward i j ps = if nat_lt j i then after_parent forward i j ps else offset_by (position_at j ps) (position_at i ps)

-- a glyph drawn, among sums
abbrev pub drawn_by_sums : Direction → ℕ → ℕ → List Position → Position
drawn_by_sums d i j ps = if (position_at i ps).attach_type == 2 then child_drawn (is_horizontal d) (position_at j ps) (position_at i ps) else mark_by_sums (is_forward d) i j ps

-- how glyphs are drawn: among sums, or among advances
abbrev pub drawing : Bool → Direction → Drawing
drawing true d = drawn_by_sums d
drawing false d = drawn_position d

-- advances that fit in 32 bits
abbrev pub Fits : Position → Type 0
Fits p = (int_wrap w32 p.x_advance ≡ p.x_advance) × (int_wrap w32 p.y_advance ≡ p.y_advance)

-- all advances fit in 32 bits
abbrev pub AllFit : List Position → Type 0
AllFit ps = (k : ℕ) → Fits (position_at k ps)
