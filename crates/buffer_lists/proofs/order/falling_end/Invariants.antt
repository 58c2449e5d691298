use Rattle.std.proofs.Common.{take}
use Rattle.buffer_glyphs.specs.Items.{clusters}
use Rattle.buffer_lists.specs.Known.{IsFallingTo}
use Rattle.buffer_lists.proofs.order.falling_end.Given as goal

-- the clusters that were passed never rise
abbrev pub invariant-loop-glyph : goal.invariant-loop-glyph
invariant-loop-glyph l = IsFallingTo l.start (clusters (take l.glyph-index l.glyphs)) l.last
