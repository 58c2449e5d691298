use Rattle.std.proofs.Common.{◌-◌}
use Rattle.buffer_stages.proofs.SyllableWalks.{IsUnderway}
use Rattle.buffer_stages.proofs.walk.each_syllable.Given as goal

-- the syllables before `start` were rewritten
abbrev pub invariant-loop-start : goal.invariant-loop-start
invariant-loop-start g l = IsUnderway (g.R.SyllableRule.rewritten l.rule) l.start l.initial.buffer l.buffer

abbrev pub decreases-loop-start : goal.decreases-loop-start
decreases-loop-start g l = l.count - l.start
