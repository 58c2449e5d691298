use Rattle.buffer_stages.specs.Ready.{IsReady}
use Rattle.tests_stages.proofs.normalizing.texts.buffer_of.Given as goal

abbrev pub invariant-loop-u : goal.invariant-loop-u
invariant-loop-u l = IsReady l.buffer
