use Rattle.std.proofs.Common.{◌≡◌, true}
use Rattle.tests_benches.proofs.buffer.ligate.Given as goal

abbrev pub invariant-loop : goal.invariant-loop
invariant-loop l = l.buffer.is_open ≡ true
