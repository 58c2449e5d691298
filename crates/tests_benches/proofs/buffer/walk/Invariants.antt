use Rattle.std.proofs.Common.{◌≡◌, true, length}
use Rattle.buffer_core.specs.Sides.{all_glyphs}
use Rattle.tests_benches.proofs.buffer.walk.Given as goal

abbrev pub invariant-loop-buffer : goal.invariant-loop-buffer
invariant-loop-buffer l = (l.buffer.is_open ≡ true) × (all_glyphs l.buffer ≡ all_glyphs l.fn.buffer)

abbrev pub decreases-loop-buffer : goal.decreases-loop-buffer
decreases-loop-buffer l = length l.buffer.ahead
