use Rattle.script_arabic.proofs.Measured.{IsMeasured}
use Rattle.script_arabic.proofs.runs.run_of.Given as goal

-- the glyphs before are tiles, and were measured
abbrev pub invariant-loop-glyph : goal.invariant-loop-glyph
invariant-loop-glyph l = IsMeasured l.face l.word l.glyphs l.glyph-index l.run
