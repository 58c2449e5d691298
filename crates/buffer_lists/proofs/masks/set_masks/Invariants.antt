use Rattle.std.proofs.Common.{◌≡◌, ◌++◌, map, take, drop}
use Rattle.buffer_lists.specs.Masks.{glyph_set}
use Rattle.buffer_lists.proofs.masks.set_masks.Given as goal

abbrev pub invariant-loop-glyph : goal.invariant-loop-glyph
invariant-loop-glyph l = l.glyphs ≡ map (glyph_set l.value l.mask l.start l.end) (take l.glyph-index l.initial.glyphs) ++ drop l.glyph-index l.initial.glyphs
