use Rattle.std.proofs.Common.{◌≡◌, ◌++◌, map, take, drop}
use Rattle.script_arabic.specs.Classed.{glyph_classed}
use Rattle.script_arabic.proofs.marks.set_class.Given as goal

abbrev pub invariant-loop-glyph : goal.invariant-loop-glyph
invariant-loop-glyph l = l.glyphs ≡ map (glyph_classed l.class) (take l.glyph-index l.initial.glyphs) ++ drop l.glyph-index l.initial.glyphs
