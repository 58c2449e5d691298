use Rattle.std.proofs.Common.{◌≡◌, drop}
use Rattle.c_text.specs.Advances.{advances_refusal}
use Rattle.c_text.proofs.advances.advances_refusal.Given as goal

-- the advances that are left decide
abbrev pub invariant-loop-one : goal.invariant-loop-one
invariant-loop-one l = advances_refusal l.face (drop l.one-index l.given) ≡ advances_refusal l.face l.given
