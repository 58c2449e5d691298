use Rattle.std.proofs.Common.{◌≡◌, ◌++◌, map, take, drop}
use Rattle.buffer_glyphs.specs.Glyphs.{in_cluster}
use Rattle.buffer_lists.proofs.due.falling.set_clusters.Given as goal

abbrev pub invariant-loop-glyph : goal.invariant-loop-glyph
invariant-loop-glyph l = l.glyphs ≡ map (in_cluster l.cluster) (take l.glyph-index l.initial.glyphs) ++ drop l.glyph-index l.initial.glyphs
