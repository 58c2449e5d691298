use Rattle.layout_gsub.proofs.Multiplied.{AreOutput}
use Rattle.layout_gsub.proofs.multiple.multiply.Given as goal

-- so many glyphs were put
abbrev pub invariant-loop-i : goal.invariant-loop-i
invariant-loop-i l = AreOutput l.face.gdef l.glyphs l.i l.info l.initial.buffer l.buffer
