use Rattle.std.proofs.Common.{◌+◌, ◌≤◌}
use Rattle.line_pieces.specs.FilledLines.{IsTooWide}
use Rattle.line_pieces.specs.LinesInHand.{page_of, piece_end}
use Rattle.line_pieces.proofs.shaped_lines.shorten.Given as goal

-- with the next piece the line doesn't fit
abbrev pub invariant-loop-piece : goal.invariant-loop-piece
invariant-loop-piece g l = record {
  some : l.first ≤ l.piece;
  wide : IsTooWide l.frame.direction (g.S.ShapesLines.IsShapedLine l.shaper) (page_of l.glyphs l.frame l.breaks) l.start.byte (piece_end (page_of l.glyphs l.frame l.breaks) (l.piece + 1));
}

abbrev pub decreases-loop-piece : goal.decreases-loop-piece
decreases-loop-piece g l = l.piece
