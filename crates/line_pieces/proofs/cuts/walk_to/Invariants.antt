use Rattle.line_pieces.specs.Steps.{text_steps}
use Rattle.line_pieces.proofs.Walks.{IsPassed}
use Rattle.line_pieces.proofs.cuts.walk_to.Given as goal

-- the glyphs so far are before the byte
abbrev pub invariant-loop-i : goal.invariant-loop-i
invariant-loop-i l = IsPassed (text_steps l.direction l.glyphs) l.byte l.i l.pen
