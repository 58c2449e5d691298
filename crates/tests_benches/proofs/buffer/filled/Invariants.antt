use Rattle.std.proofs.Common.{◌≡◌, false}
use Rattle.tests_benches.proofs.buffer.filled.Given as goal

abbrev pub invariant-loop-cluster : goal.invariant-loop-cluster
invariant-loop-cluster l = l.buffer.is_open ≡ false
