use Rattle.std.proofs.Common.{◌≡◌, drop}
use Rattle.c_text.specs.Advances.{advances_refusal, with_advances}
use Rattle.c_text.proofs.advances.set_advances.Given as goal

-- the advances that are left, none of which is refused, lead to the font with all
abbrev pub invariant-loop-one : goal.invariant-loop-one
invariant-loop-one l = (with_advances (drop l.one-index l.given) l.face ≡ with_advances l.given l.fn.face) × (advances_refusal l.fn.face (drop l.one-index l.given) ≡ 0)
