use Rattle.std.proofs.Common.{◌≡◌, drop}
use Rattle.buffer_glyphs.specs.Items.{clusters}
use Rattle.buffer_parts.specs.Slices.{first_or}
use Rattle.shape_slices.specs.Deciding.{fall_from}
use Rattle.shape_slices.proofs.fitting.are_falling.Given as goal

-- what is left decides
abbrev pub invariant-loop-glyph : goal.invariant-loop-glyph
invariant-loop-glyph l = fall_from l.last (clusters (drop l.glyph-index l.glyphs)) ≡ fall_from (first_or 0 (clusters l.glyphs)) (clusters l.glyphs)
