use Rattle.script_arabic.proofs.Copied.{AreCopied}
use Rattle.script_arabic.proofs.copying.pass.Given as goal

-- that many copies are output
abbrev pub invariant-loop : goal.invariant-loop
invariant-loop l = AreCopied l.counter l.initial.buffer l.buffer
