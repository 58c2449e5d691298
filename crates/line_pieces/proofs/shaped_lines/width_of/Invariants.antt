use Rattle.line_pieces.proofs.LinesTaken.{IsPenAfter}
use Rattle.line_pieces.proofs.shaped_lines.width_of.Given as goal

-- the pen is after the positions so far
abbrev pub invariant-loop-position : goal.invariant-loop-position
invariant-loop-position l = IsPenAfter l.direction l.position-items l.position-index l.pen
