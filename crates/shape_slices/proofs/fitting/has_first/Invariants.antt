use Rattle.std.proofs.Common.{◌≡◌, drop}
use Rattle.buffer_glyphs.specs.Items.{clusters}
use Rattle.buffer_glyphs.specs.Order.{has_number}
use Rattle.shape_slices.proofs.fitting.has_first.Given as goal

-- what is left decides
abbrev pub invariant-loop-glyph : goal.invariant-loop-glyph
invariant-loop-glyph l = has_number (clusters (drop l.glyph-index l.glyphs)) 0 ≡ has_number (clusters l.glyphs) 0
