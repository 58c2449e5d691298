-- The box of a pen has its points.
use Rattle.std.proofs.Common.{◌≡◌, ℕ, ◌≤◌, Bool, true, false, if◌then◌else◌, refl, arith}
use Rattle.font_charstrings.specs.declared.pen.Pen.{Pen}
use Rattle.font_charstrings.specs.Pen.{moved_pen, with_current_point, open_pen, move_to, line_to}
use Rattle.font_charstrings.specs.Boxes.{HasPoint, HasBox, LinesAreWithin, PathsAreWithin}

touched_has : (p : Pen) → HasPoint (with_current_point p)
unfolding with_current_point
touched_has p = record { left = omega arith; right = omega arith; bottom = omega arith; top = omega arith }

touched_keeps : (p q : Pen) → HasBox p q → HasBox p (with_current_point q)
unfolding with_current_point
touched_keeps p q h = record { left = omega arith; right = omega arith; bottom = omega arith; top = omega arith }

same_box : (p : Pen) → HasBox p p
same_box p = record { left = omega arith; right = omega arith; bottom = omega arith; top = omega arith }

moved_keeps : (p q : Pen) (dx dy : ℕ) → HasBox p q → HasBox p (moved_pen q dx dy)
unfolding moved_pen
moved_keeps p q dx dy h = record { left = h.left; right = h.right; bottom = h.bottom; top = h.top }

opened_keeps : (p : Pen) → HasBox p (open_pen p)
unfolding open_pen
opened_keeps p = elim p.is_open as (λ b. HasBox p (if b then p else with_current_point p)) [ true ↦ same_box p | false ↦ touched_keeps p p (same_box p) ]

-- where a line ends is within the box, and so is all that was
pub lines_are_within : LinesAreWithin
unfolding line_to
lines_are_within pen dx dy = (touched_has (moved_pen (open_pen pen) dx dy), touched_keeps pen (moved_pen (open_pen pen) dx dy) (moved_keeps pen (open_pen pen) dx dy (opened_keeps pen)))

-- where a path begins is within the box, and so is all that was
pub paths_are_within : PathsAreWithin
unfolding move_to
paths_are_within pen dx dy = (touched_has (moved_pen pen dx dy), touched_keeps pen (moved_pen pen dx dy) (moved_keeps pen pen dx dy (same_box pen)))
