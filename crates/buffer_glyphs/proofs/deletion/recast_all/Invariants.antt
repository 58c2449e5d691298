use Rattle.std.proofs.Common.{◌≡◌, ◌++◌, map, take, drop}
use Rattle.buffer_glyphs.specs.Deleting.{recast}
use Rattle.buffer_glyphs.proofs.deletion.recast_all.Given as goal

abbrev pub invariant-loop-other : goal.invariant-loop-other
invariant-loop-other l = l.glyphs ≡ map (recast l.glyph.cluster l.glyph.mask) (take l.other-index l.fn.glyphs) ++ drop l.other-index l.fn.glyphs
