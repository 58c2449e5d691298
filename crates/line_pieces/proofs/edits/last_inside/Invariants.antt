use Rattle.line_pieces.proofs.Edited.{IsPassedTo}
use Rattle.line_pieces.proofs.edits.last_inside.Given as goal

-- the glyphs so far are passed
abbrev pub invariant-loop-i : goal.invariant-loop-i
invariant-loop-i l = IsPassedTo l.direction l.before l.after l.edit l.i l.last l.from
