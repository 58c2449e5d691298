use Rattle.std.proofs.Common.{◌-◌}
use Rattle.script_syllabic.proofs.Forming.{IsForming}
use Rattle.script_syllabic.proofs.forms.setup_topographical_masks.Given as goal

-- the syllables before `start` have their forms
abbrev pub invariant-loop-start : goal.invariant-loop-start
invariant-loop-start l = IsForming l.masks l.start l.before l.initial.buffer l.buffer

abbrev pub decreases-loop-start : goal.decreases-loop-start
decreases-loop-start l = l.count - l.start
