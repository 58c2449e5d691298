use Rattle.std.proofs.Common.{◌≡◌, ◌++◌, map, take, drop}
use Rattle.script_joining.specs.Glyphs.{glyph_joined}
use Rattle.script_joining.proofs.letters.add_masks.Given as goal

abbrev pub invariant-loop-glyph : goal.invariant-loop-glyph
invariant-loop-glyph l = l.glyphs ≡ map (glyph_joined l.masks) (take l.glyph-index l.initial.glyphs) ++ drop l.glyph-index l.initial.glyphs
