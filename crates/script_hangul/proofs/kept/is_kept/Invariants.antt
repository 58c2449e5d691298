use Rattle.script_hangul.proofs.Unchanged.{AreKept}
use Rattle.script_hangul.proofs.kept.is_kept.Given as goal

-- all before stay, so that what is left decides
abbrev pub invariant-loop-at : goal.invariant-loop-at
invariant-loop-at l = AreKept l.face l.at l.glyphs
