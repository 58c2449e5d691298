use Rattle.buffer_stages.specs.Ready.{IsReady}
use Rattle.tests_stages.proofs.buffers.buffer_of.Given as goal

abbrev pub invariant-loop-glyph : goal.invariant-loop-glyph
invariant-loop-glyph l = IsReady l.buffer
