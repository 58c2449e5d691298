use Rattle.std.proofs.Common.{◌≡◌, ◌≤◌, ◌-◌, get_or}
use Rattle.line_pieces.specs.Cuts.{IsCut}
use Rattle.line_pieces.specs.Steps.{text_steps}
use Rattle.line_pieces.proofs.shaped_lines.shown_piece.Given as goal

-- the cut at the end of a piece
abbrev pub invariant-loop-last : goal.invariant-loop-last
invariant-loop-last l = record {
  cut : IsCut (text_steps l.frame.direction l.glyphs) l.frame.end l.last;
  at : l.last.byte ≡ get_or l.breaks l.piece l.frame.end;
  first : l.first ≤ l.piece;
}

abbrev pub decreases-loop-last : goal.decreases-loop-last
decreases-loop-last l = l.frame.end - l.last.byte
