use Rattle.std.proofs.Common.{◌≡◌, ◌+◌, drop}
use Rattle.script_hangul.proofs.composing.skip_glyphs.Given as goal

-- the glyphs before an index are deleted
abbrev pub invariant-loop : goal.invariant-loop
invariant-loop l = l.buffer ≡ record l.initial.buffer { ahead = drop l.counter l.initial.buffer.ahead; read = l.initial.buffer.read + l.counter }
