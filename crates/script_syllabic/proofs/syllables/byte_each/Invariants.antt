use Rattle.std.proofs.Common.{◌≡◌, ◌++◌, map, take, drop}
use Rattle.script_syllabic.specs.Rules.{glyph_with_byte}
use Rattle.script_syllabic.proofs.syllables.byte_each.Given as goal

abbrev pub invariant-loop-glyph : goal.invariant-loop-glyph
invariant-loop-glyph l = l.glyphs ≡ map (glyph_with_byte l.byte) (take l.glyph-index l.initial.glyphs) ++ drop l.glyph-index l.initial.glyphs
