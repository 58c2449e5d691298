use Rattle.std.proofs.Common.{◌-◌}
use Rattle.script_universal.specs.Walked.{IsWalked}
use Rattle.script_universal.proofs.reorder.move_left.Given as goal

-- the ranges before this index were walked
abbrev pub invariant-loop-i : goal.invariant-loop-i
invariant-loop-i l = IsWalked l.start l.end 0 l.i l.initial.buffer l.buffer

abbrev pub decreases-loop-i : goal.decreases-loop-i
decreases-loop-i l = l.end - l.start - l.i
