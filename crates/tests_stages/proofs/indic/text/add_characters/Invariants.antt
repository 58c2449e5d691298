use Rattle.std.proofs.Common.{◌≡◌, false}
use Rattle.tests_stages.proofs.indic.text.add_characters.Given as goal

-- no output is open
abbrev pub invariant-loop-i : goal.invariant-loop-i
invariant-loop-i l = l.buffer.is_open ≡ false
