use Rattle.std.proofs.Common.{◌≡◌, drop}
use Rattle.buffer_glyphs.specs.Items.{clusters}
use Rattle.shape_slices.specs.Deciding.{rise_from}
use Rattle.shape_slices.proofs.fitting.are_rising.Given as goal

-- what is left decides
abbrev pub invariant-loop-glyph : goal.invariant-loop-glyph
invariant-loop-glyph l = rise_from l.last (clusters (drop l.glyph-index l.glyphs)) ≡ rise_from 0 (clusters l.glyphs)
