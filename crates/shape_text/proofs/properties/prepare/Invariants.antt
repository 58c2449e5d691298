use Rattle.shape_text.proofs.Prepared.{ArePrepared}
use Rattle.shape_text.proofs.properties.prepare.Given as goal

abbrev pub invariant-loop-glyph : goal.invariant-loop-glyph
invariant-loop-glyph l = ArePrepared l.tables l.glyph-index l.before l.scratch_flags l.initial.scratch_flags l.initial.glyphs l.glyphs
