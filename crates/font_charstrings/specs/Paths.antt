-- Path operators (TN 5177, 4.1 and 4.2): what a pen has drawn by the operands of one operator.
use Rattle.std.specs.Prelude.{ℕ, zero, suc, ◌+◌, ◌-◌, ◌*◌, ◌/◌, ◌%◌, ◌==◌, ◌&&◌, nat_lt, nat_le, not, Bool, true, false, if◌then◌else◌, List, length, slice_index, Result, Ok, Err}
use Rattle.std.specs.Int.{abs_diff}
use Rattle.font_bytes.specs.declared.fault.TableFault.{TableFault}
use Rattle.font_bytes.specs.declared.fault.TableFault.TheVariants.{Kind}
use Rattle.font_charstrings.specs.declared.pen.Pen.{Pen}
use Rattle.font_charstrings.specs.Pen.{line_to, move_to, curve_to, level_to, upright_to}

-- the direction of what has an index in a row that turns each time
unfoldable pub direction_at : Bool → ℕ → Bool
direction_at is_horizontal index = if index % 2 == 0 then is_horizontal else not is_horizontal

-- {dxa dya}+ rlineto: n lines
unfoldable pub lines : List ℕ → Pen → ℕ → Pen
lines args pen zero = pen
lines args pen (suc n) = line_to (lines args pen n) (slice_index args (2 * n)) (slice_index args (2 * n + 1))

-- a horizontal or a vertical line
unfoldable pub side : Pen → Bool → ℕ → Pen
side pen is_horizontal d = if is_horizontal then line_to pen d 0 else line_to pen 0 d

-- dx1 {dya dxb}* hlineto, dy1 {dxa dyb}* vlineto: n lines, horizontal and vertical in turn
unfoldable pub sides : List ℕ → Bool → Pen → ℕ → Pen
sides args is_horizontal pen zero = pen
sides args is_horizontal pen (suc n) = side (sides args is_horizontal pen n) (direction_at is_horizontal n) (slice_index args n)

-- a curve that begins and ends horizontally or vertically, but for the distance of its first move across
unfoldable pub flat_curve : Pen → Bool → ℕ → ℕ → ℕ → ℕ → ℕ → Pen
flat_curve pen is_horizontal across a b c d = if is_horizontal then curve_to pen a across b c d 0 else curve_to pen across a b c 0 d

-- the distance of the first move of a curve across: the first of an odd number of operands
unfoldable pub cross : List ℕ → ℕ → ℕ
cross args index = if index == 0 && length args % 2 == 1 then slice_index args 0 else 0

-- dy1? {dxa dxb dyb dxc}+ hhcurveto, dx1? {dya dxb dyb dyc}+ vvcurveto: n curves
unfoldable pub flat_curves : List ℕ → Bool → Pen → ℕ → Pen
flat_curves args is_horizontal pen zero = pen
flat_curves args is_horizontal pen (suc n) = flat_curve (flat_curves args is_horizontal pen n) is_horizontal (cross args n)
    (slice_index args (length args % 2 + 4 * n)) (slice_index args (length args % 2 + 4 * n + 1)) (slice_index args (length args % 2 + 4 * n + 2)) (slice_index args (length args % 2 + 4 * n + 3))

-- a curve from one direction to the other; the last operand is the distance of its last move across
unfoldable pub corner_curve : Pen → Bool → ℕ → ℕ → ℕ → ℕ → ℕ → Pen
corner_curve pen is_horizontal a b c d across = if is_horizontal then curve_to pen a 0 b c across d else curve_to pen 0 a b c d across

-- the operand at an index where it is the last one, else 0
unfoldable pub spare : List ℕ → ℕ → ℕ
spare args at = if length args == at + 1 then slice_index args at else 0

-- hvcurveto, vhcurveto: n curves of four operands that turn each time; the last one may have a fifth
unfoldable pub corner_curves : List ℕ → Bool → Pen → ℕ → Pen
corner_curves args is_horizontal pen zero = pen
corner_curves args is_horizontal pen (suc n) = corner_curve (corner_curves args is_horizontal pen n) (direction_at is_horizontal n)
    (slice_index args (4 * n)) (slice_index args (4 * n + 1)) (slice_index args (4 * n + 2)) (slice_index args (4 * n + 3)) (spare args (4 * n + 4))

-- dx1 dx2 dy2 dx3 dx4 dx5 dx6 hflex: the fifth point is at the height of the first
unfoldable pub hflex : List ℕ → Pen → Pen
hflex args pen = line_to (level_to (line_to
    (curve_to pen (slice_index args 0) 0 (slice_index args 1) (slice_index args 2) (slice_index args 3) 0)
    (slice_index args 4) 0) (slice_index args 5) pen.y) (slice_index args 6) 0

-- dx1 dy1 dx2 dy2 dx3 dx4 dx5 dy5 dx6 hflex1: the last point is at the height of the first
unfoldable pub hflex1 : List ℕ → Pen → Pen
hflex1 args pen = level_to (line_to (line_to
    (curve_to pen (slice_index args 0) (slice_index args 1) (slice_index args 2) (slice_index args 3) (slice_index args 4) 0)
    (slice_index args 5) 0) (slice_index args 6) (slice_index args 7)) (slice_index args 8) pen.y

-- dx1 dy1 dx2 dy2 dx3 dy3 dx4 dy4 dx5 dy5 d6 flex1: the last point lies on in the direction of the longer way, and is level
-- with the first one in the other
unfoldable pub flex1 : List ℕ → Pen → Pen
flex1 args pen = if nat_lt (abs_diff (lines args pen 5).y pen.y) (abs_diff (lines args pen 5).x pen.x)
    then level_to (lines args pen 5) (slice_index args 10) pen.y
    else upright_to (lines args pen 5) pen.x (slice_index args 10)

-- {dxa dya dxb dyb dxc dyc}+ rrcurveto: the number of points
unfoldable pub curve_pairs : ℕ → ℕ
curve_pairs count = count / 6 * 3

-- {dxa dya dxb dyb dxc dyc}+ dxd dyd rcurveline: the number of points
unfoldable pub curve_line_pairs : ℕ → ℕ
curve_line_pairs count = if nat_lt count 8 then 0 else (count - 2) / 6 * 3 + 1

-- {dxa dya}+ dxb dyb dxc dyc dxd dyd rlinecurve: the number of points
unfoldable pub line_curve_pairs : ℕ → ℕ
line_curve_pairs count = if nat_lt count 8 then 0 else count / 2

-- dx dy rmoveto, dx hmoveto, dy vmoveto, after a width that may be there
unfoldable pub pen_after_move : ℕ → ℕ → Pen → List ℕ → Result Pen TableFault
pen_after_move code at pen args =
    if code == 21 && nat_le 2 (length args) then Ok (move_to pen (slice_index args (length args - 2)) (slice_index args (length args - 1)))
    else (if code == 22 && nat_le 1 (length args) then Ok (move_to pen (slice_index args (length args - 1)) 0)
    else (if code == 4 && nat_le 1 (length args) then Ok (move_to pen 0 (slice_index args (length args - 1)))
    else Err (Kind at)))

-- what a path operator of one byte draws
unfoldable pub pen_after_path : ℕ → ℕ → Pen → List ℕ → Result Pen TableFault
pen_after_path code at pen args =
    if code == 5 then Ok (lines args pen (length args / 2))
    else (if code == 6 then Ok (sides args true pen (length args))
    else (if code == 7 then Ok (sides args false pen (length args))
    else (if code == 8 then Ok (lines args pen (curve_pairs (length args)))
    else (if code == 24 then Ok (lines args pen (curve_line_pairs (length args)))
    else (if code == 25 then Ok (lines args pen (line_curve_pairs (length args)))
    else (if code == 26 then Ok (flat_curves args false pen (length args / 4))
    else (if code == 27 then Ok (flat_curves args true pen (length args / 4))
    else (if code == 30 then Ok (corner_curves args false pen (length args / 4))
    else (if code == 31 then Ok (corner_curves args true pen (length args / 4))
    else pen_after_move code at pen args)))))))))

-- what a path operator of two bytes draws, by the second one
unfoldable pub pen_after_flex : ℕ → ℕ → Pen → List ℕ → Result Pen TableFault
pen_after_flex code at pen args =
    if code == 34 && length args == 7 then Ok (hflex args pen)
    else (if code == 35 && length args == 13 then Ok (lines args pen 6)
    else (if code == 36 && length args == 9 then Ok (hflex1 args pen)
    else (if code == 37 && length args == 11 then Ok (flex1 args pen)
    else Err (Kind at))))
