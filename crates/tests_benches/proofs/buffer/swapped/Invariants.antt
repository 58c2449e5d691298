use Rattle.std.proofs.Common.{◌≡◌, false}
use Rattle.tests_benches.proofs.buffer.swapped.Given as goal

abbrev pub invariant-loop-index : goal.invariant-loop-index
invariant-loop-index l = l.buffer.is_open ≡ false
