use Rattle.std.proofs.Common.{drop}
use Rattle.line_pieces.specs.Lines.{paragraph_by}
use Rattle.line_pieces.proofs.Filled.{IsFilling}
use Rattle.line_pieces.proofs.filling.lines_of_pieces.Given as goal

-- lines so far, one that is being filled, and the breaks that are left
abbrev pub invariant-loop-byte : goal.invariant-loop-byte
invariant-loop-byte l = IsFilling (paragraph_by l.frame.direction l.glyphs l.frame.end l.breaks l.frame.widths) l.start l.last l.lines.items (drop l.byte-index l.breaks)
