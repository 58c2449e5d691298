-- What the box of a pen has.
use Rattle.std.specs.Prelude.{ℕ, ◌≤◌}
use Rattle.font_charstrings.specs.declared.pen.Pen.{Pen}
use Rattle.font_charstrings.specs.Pen.{move_to, line_to}

-- the box has the current point
pub record HasPoint (p : Pen) : Type 0 where
  pub left : p.left ≤ p.x
  pub right : p.x ≤ p.right
  pub bottom : p.bottom ≤ p.y
  pub top : p.y ≤ p.top

-- a box has all of another one
pub record HasBox (small large : Pen) : Type 0 where
  pub left : large.left ≤ small.left
  pub right : small.right ≤ large.right
  pub bottom : large.bottom ≤ small.bottom
  pub top : small.top ≤ large.top

-- where a line ends is within the box, and so is all that was
abbrev pub LinesAreWithin : Type 0
LinesAreWithin = (pen : Pen) (dx dy : ℕ) → HasPoint (line_to pen dx dy) × HasBox pen (line_to pen dx dy)

-- where a path begins is within the box, and so is all that was
abbrev pub PathsAreWithin : Type 0
PathsAreWithin = (pen : Pen) (dx dy : ℕ) → HasPoint (move_to pen dx dy) × HasBox pen (move_to pen dx dy)
