use Rattle.buffer_glyphs.specs.Items.{strip}
use Rattle.script_syllabic.proofs.Underway.{IsUnderway, left_to_do}
use Rattle.script_syllabic.proofs.circles.put_circles.Given as goal

-- circles were inserted before the input
abbrev pub invariant-loop-buffer : goal.invariant-loop-buffer
invariant-loop-buffer l = IsUnderway l.rule l.last l.fn.buffer l.buffer

abbrev pub decreases-loop-buffer : goal.decreases-loop-buffer
decreases-loop-buffer l = left_to_do l.rule l.last (strip l.buffer.ahead)
