use Rattle.std.proofs.Common.{◌≡◌, ◌++◌, map, take, drop}
use Rattle.buffer_stages.specs.Parts.{glyph_masked}
use Rattle.buffer_stages.proofs.parts.mask_each.Given as goal

abbrev pub invariant-loop-glyph : goal.invariant-loop-glyph
invariant-loop-glyph l = l.glyphs ≡ map (glyph_masked l.mask) (take l.glyph-index l.initial.glyphs) ++ drop l.glyph-index l.initial.glyphs
