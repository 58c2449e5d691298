use Rattle.buffer_stages.proofs.Loops.{AreWritten}
use Rattle.shape_text.specs.Rotation.{mirrored_item}
use Rattle.shape_text.proofs.rotation.mirror_each.Given as goal

-- the glyphs before an index are mirrored
abbrev pub invariant-loop-glyph : goal.invariant-loop-glyph
invariant-loop-glyph l = AreWritten (mirrored_item l.tables l.face l.mask) l.glyph-index l.initial.glyphs l.glyphs
