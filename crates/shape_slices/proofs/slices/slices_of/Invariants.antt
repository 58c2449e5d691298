use Rattle.std.proofs.Common.{◌≡◌, [], drop}
use Rattle.buffer_glyphs.specs.Items.{clusters}
use Rattle.shape_slices.specs.Walk.{with_glyphs}
use Rattle.shape_slices.proofs.slices.slices_of.Given as goal

-- the glyphs that are left give what all give
abbrev pub invariant-loop-at : goal.invariant-loop-at
invariant-loop-at l = with_glyphs l.end l.at (clusters (drop l.at l.glyphs)) l.slices.items ≡ with_glyphs l.end 0 (clusters l.glyphs) []
