use Rattle.std.proofs.Common.{take}
use Rattle.buffer_glyphs.specs.Items.{clusters}
use Rattle.buffer_lists.specs.Known.{IsRisingTo}
use Rattle.buffer_lists.proofs.order.rising_end.Given as goal

-- the clusters that were passed never fall
abbrev pub invariant-loop-glyph : goal.invariant-loop-glyph
invariant-loop-glyph l = IsRisingTo l.start (clusters (take l.glyph-index l.glyphs)) l.last
