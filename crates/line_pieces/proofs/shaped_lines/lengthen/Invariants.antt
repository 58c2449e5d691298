use Rattle.std.proofs.Common.{◌-◌}
use Rattle.line_pieces.specs.LinesInHand.{IsReached, page_of}
use Rattle.line_pieces.proofs.shaped_lines.lengthen.Given as goal

-- a line that fits
abbrev pub invariant-loop-line : goal.invariant-loop-line
invariant-loop-line g l = IsReached l.frame.direction (g.S.ShapesLines.IsShapedLine l.shaper) (page_of l.glyphs l.frame l.breaks) l.start.byte (record { line = l.line; piece = l.piece })

abbrev pub decreases-loop-line : goal.decreases-loop-line
decreases-loop-line g l = l.frame.end - l.line.end
