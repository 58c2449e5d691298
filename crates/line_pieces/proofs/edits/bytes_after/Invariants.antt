use Rattle.line_pieces.proofs.Edited.{IsNoneTo}
use Rattle.line_pieces.proofs.edits.bytes_after.Given as goal

-- the glyphs so far are passed
abbrev pub invariant-loop-i : goal.invariant-loop-i
invariant-loop-i l = IsNoneTo l.direction l.before l.after l.edit l.i l.last
