use Rattle.std.proofs.Common.{◌≡◌, drop}
use Rattle.std.specs.List.{list_all}
use Rattle.buffer_glyphs.specs.Items.{clusters}
use Rattle.buffer_glyphs.specs.Order.{has_number}
use Rattle.shape_trials.proofs.alone.clusters_are_among.Given as goal

-- what is left decides
abbrev pub invariant-loop-glyph : goal.invariant-loop-glyph
invariant-loop-glyph l = list_all (λ n. has_number l.starts n) (clusters (drop l.glyph-index l.glyphs)) ≡ list_all (λ n. has_number l.starts n) (clusters l.glyphs)
