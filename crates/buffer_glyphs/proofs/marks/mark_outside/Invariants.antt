use Rattle.std.proofs.Common.{◌≡◌, ◌++◌, map, take, drop}
use Rattle.buffer_glyphs.specs.Glyphs.{marked_outside}
use Rattle.buffer_glyphs.proofs.marks.mark_outside.Given as goal

abbrev pub invariant-loop-glyph : goal.invariant-loop-glyph
invariant-loop-glyph l = l.glyphs ≡ map (marked_outside l.flags l.cluster) (take l.glyph-index l.initial.glyphs) ++ drop l.glyph-index l.initial.glyphs
