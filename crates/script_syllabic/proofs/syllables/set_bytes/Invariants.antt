use Rattle.std.proofs.Common.{length, ◌-◌}
use Rattle.script_syllabic.proofs.Marking.{IsMarking}
use Rattle.script_syllabic.proofs.syllables.set_bytes.Given as goal

-- the syllables before `start` have their bytes
abbrev pub invariant-loop-start : goal.invariant-loop-start
invariant-loop-start g l = IsMarking (g.S.SyllableSpans.span_of l.spans l.shaper l.categories) (g.P.SyllableIndices.index_of l.buffer_indices) l.shaper (length l.categories) l.index l.start l.initial.buffer l.buffer

abbrev pub decreases-loop-start : goal.decreases-loop-start
decreases-loop-start g l = length l.categories - l.start
