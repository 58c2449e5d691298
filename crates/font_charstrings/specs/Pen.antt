-- The current point of a charstring, and the box of its points, those off the curves among them.
use Rattle.std.specs.Prelude.{ℕ, ◌+◌, ◌-◌, nat_lt, min, max, true, false, if◌then◌else◌}
use Rattle.font_charstrings.specs.declared.pen.Pen.{Pen}

-- a pen at the origin that has drawn nothing: coordinate c, in units of 1/65536, is the number 2^63 + c
unfoldable pub new_pen : Pen
new_pen = record { x = 9223372036854775808; y = 9223372036854775808; left = 18446744073709551615; bottom = 18446744073709551615; right = 0; top = 0; is_open = false }

-- a coordinate that an operand moves: 16.16 in two's complement (TN 5177, 3.2); it stays within 64 bits
unfoldable pub moved_coordinate : ℕ → ℕ → ℕ
moved_coordinate x d = if nat_lt d 2147483648 then min (x + d) 18446744073709551615 else x - (4294967296 - d)

-- the current point moves by two operands
unfoldable pub moved_pen : Pen → ℕ → ℕ → Pen
moved_pen pen dx dy = record { x = moved_coordinate pen.x dx; y = moved_coordinate pen.y dy; left = pen.left; bottom = pen.bottom; right = pen.right; top = pen.top; is_open = pen.is_open }

-- the box takes in the current point, which a path has now
unfoldable pub with_current_point : Pen → Pen
with_current_point pen = record { x = pen.x; y = pen.y; left = min pen.left pen.x; bottom = min pen.bottom pen.y; right = max pen.right pen.x; top = max pen.top pen.y; is_open = true }

-- where no path has begun one begins at the current point
unfoldable pub open_pen : Pen → Pen
open_pen pen = if pen.is_open then pen else with_current_point pen

-- a path begins at another point (rmoveto)
unfoldable pub move_to : Pen → ℕ → ℕ → Pen
move_to pen dx dy = with_current_point (moved_pen pen dx dy)

-- a line to another point (rlineto)
unfoldable pub line_to : Pen → ℕ → ℕ → Pen
line_to pen dx dy = with_current_point (moved_pen (open_pen pen) dx dy)

-- a curve (rrcurveto): the box takes in the two points off it and its end, as three lines would
unfoldable pub curve_to : Pen → ℕ → ℕ → ℕ → ℕ → ℕ → ℕ → Pen
curve_to pen dxa dya dxb dyb dxc dyc = line_to (line_to (line_to pen dxa dya) dxb dyb) dxc dyc

-- a point at a height
unfoldable pub level_to : Pen → ℕ → ℕ → Pen
level_to pen dx y = with_current_point (record { x = moved_coordinate pen.x dx; y = y; left = pen.left; bottom = pen.bottom; right = pen.right; top = pen.top; is_open = true })

-- a point above or below an x coordinate
unfoldable pub upright_to : Pen → ℕ → ℕ → Pen
upright_to pen x dy = with_current_point (record { x = x; y = moved_coordinate pen.y dy; left = pen.left; bottom = pen.bottom; right = pen.right; top = pen.top; is_open = true })
