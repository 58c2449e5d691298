use Rattle.std.proofs.Common.{◌≡◌, ◌++◌, map, take, drop}
use Rattle.buffer_glyphs.specs.Glyphs.{glyph_flagged}
use Rattle.buffer_glyphs.proofs.marks.flag_all.Given as goal

abbrev pub invariant-loop-glyph : goal.invariant-loop-glyph
invariant-loop-glyph l = l.glyphs ≡ map (glyph_flagged l.flags) (take l.glyph-index l.initial.glyphs) ++ drop l.glyph-index l.initial.glyphs
