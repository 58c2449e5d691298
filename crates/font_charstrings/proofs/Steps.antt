-- What path operators draw, one line or curve at a time.
use Rattle.std.proofs.Common.{◌≡◌, ℕ, ◌+◌, ◌*◌, ◌%◌, Bool, List, length, slice_index, refl, add-one}
use Rattle.font_charstrings.specs.declared.pen.Pen.{Pen}
use Rattle.font_charstrings.specs.Pen.{line_to}
use Rattle.font_charstrings.specs.Paths.{lines, side, sides, direction_at, flat_curve, flat_curves, cross, corner_curve, corner_curves, spare}

-- no line
pub lines_none : (args : List ℕ) (pen : Pen) → lines args pen 0 ≡ pen
unfolding lines
lines_none args pen = refl

-- one more line
pub lines_next : (args : List ℕ) (pen : Pen) (n : ℕ) → lines args pen (n + 1) ≡ line_to (lines args pen n) (slice_index args (2 * n)) (slice_index args (2 * n + 1))
unfolding lines
lines_next args pen n = rw add-one refl

-- no line
pub sides_none : (args : List ℕ) (h : Bool) (pen : Pen) → sides args h pen 0 ≡ pen
unfolding sides
sides_none args h pen = refl

-- one more line
pub sides_next : (args : List ℕ) (h : Bool) (pen : Pen) (n : ℕ) → sides args h pen (n + 1) ≡ side (sides args h pen n) (direction_at h n) (slice_index args n)
unfolding sides
sides_next args h pen n = rw add-one refl

-- no curve
pub flat_curves_none : (args : List ℕ) (h : Bool) (pen : Pen) → flat_curves args h pen 0 ≡ pen
unfolding flat_curves
flat_curves_none args h pen = refl

-- one more curve
pub flat_curves_next : (args : List ℕ) (h : Bool) (pen : Pen) (n : ℕ) → flat_curves args h pen (n + 1) ≡ flat_curve (flat_curves args h pen n) h (cross args n)
    (slice_index args (length args % 2 + 4 * n)) (slice_index args (length args % 2 + 4 * n + 1)) (slice_index args (length args % 2 + 4 * n + 2)) (slice_index args (length args % 2 + 4 * n + 3))
unfolding flat_curves
flat_curves_next args h pen n = rw add-one refl

-- no curve
pub corner_curves_none : (args : List ℕ) (h : Bool) (pen : Pen) → corner_curves args h pen 0 ≡ pen
unfolding corner_curves
corner_curves_none args h pen = refl

-- one more curve
pub corner_curves_next : (args : List ℕ) (h : Bool) (pen : Pen) (n : ℕ) → corner_curves args h pen (n + 1) ≡ corner_curve (corner_curves args h pen n) (direction_at h n)
    (slice_index args (4 * n)) (slice_index args (4 * n + 1)) (slice_index args (4 * n + 2)) (slice_index args (4 * n + 3)) (spare args (4 * n + 4))
unfolding corner_curves
corner_curves_next args h pen n = rw add-one refl
