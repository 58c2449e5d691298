use Rattle.std.proofs.Common.{◌≡◌}
use Rattle.script_universal.proofs.LeftRanges.{left_reach}
use Rattle.script_universal.proofs.reorder.end_of_left.Given as goal

abbrev pub invariant-loop-i : goal.invariant-loop-i
invariant-loop-i l = left_reach l.end l.i l.glyphs ≡ left_reach 1 0 l.glyphs
