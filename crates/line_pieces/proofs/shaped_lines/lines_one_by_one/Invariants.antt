use Rattle.std.proofs.Common.{◌≤◌, ◌<◌, ◌-◌}
use Rattle.line_pieces.specs.Cuts.{IsCut}
use Rattle.line_pieces.specs.LinesInHand.{AreLinesTo, IsFirstPiece, page_of}
use Rattle.line_pieces.specs.Steps.{text_steps}
use Rattle.line_pieces.proofs.shaped_lines.lines_one_by_one.Given as goal

-- the lines so far, and the first piece after them, if there is one
abbrev pub invariant-loop-start : goal.invariant-loop-start
invariant-loop-start g l = record {
  cut : IsCut (text_steps l.frame.direction l.glyphs) l.frame.end l.start;
  within : l.start.byte ≤ l.frame.end;
  lines : AreLinesTo l.frame.direction (g.S.ShapesLines.IsShapedLine l.shaper) (page_of l.glyphs l.frame l.breaks) l.start.byte l.lines.items;
  first : l.start.byte < l.frame.end → IsFirstPiece (page_of l.glyphs l.frame l.breaks) l.start.byte l.first;
}

abbrev pub decreases-loop-start : goal.decreases-loop-start
decreases-loop-start g l = l.frame.end - l.start.byte
