use Rattle.buffer_core.specs.Sides.{with_output}
use Rattle.script_thai.proofs.Vowels.{IsUnderway}
use Rattle.script_thai.proofs.thai_vowel.split_vowels.Given as goal

-- all but the last `left` characters were output
abbrev pub invariant-loop-left : goal.invariant-loop-left
invariant-loop-left l = IsUnderway l.left (with_output l.fn.buffer) l.buffer

abbrev pub decreases-loop-left : goal.decreases-loop-left
decreases-loop-left l = l.left
