use Rattle.std.proofs.Common.{◌-◌}
use Rattle.script_syllabic.proofs.Seams.{AreSeamsFlagged}
use Rattle.script_syllabic.proofs.forms.flag_each_seam.Given as goal

-- the seams before `start` are flagged
abbrev pub invariant-loop-start : goal.invariant-loop-start
invariant-loop-start l = AreSeamsFlagged l.initial.buffer l.start l.before l.buffer

abbrev pub decreases-loop-start : goal.decreases-loop-start
decreases-loop-start l = l.count - l.start
