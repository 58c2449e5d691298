use Rattle.std.proofs.Common.{◌≡◌, drop}
use Rattle.std.specs.Prelude.{nat_lt}
use Rattle.buffer_glyphs.specs.Items.{clusters}
use Rattle.std.specs.List.{list_all}
use Rattle.shape_slices.proofs.fitting.are_all_below.Given as goal

-- what is left decides
abbrev pub invariant-loop-glyph : goal.invariant-loop-glyph
invariant-loop-glyph l = list_all (λ n. nat_lt n l.end) (clusters (drop l.glyph-index l.glyphs)) ≡ list_all (λ n. nat_lt n l.end) (clusters l.glyphs)
