use Rattle.std.proofs.Common.{◌≡◌, drop}
use Rattle.buffer_glyphs.specs.Items.{clusters}
use Rattle.std.specs.List.{list_all}
use Rattle.buffer_glyphs.specs.Order.{has_number}
use Rattle.shape_slices.specs.Fitting.{character_starts}
use Rattle.shape_slices.proofs.fitting.are_all_starts.Given as goal

-- what is left decides
abbrev pub invariant-loop-glyph : goal.invariant-loop-glyph
invariant-loop-glyph l = list_all (λ n. has_number (character_starts l.text) n) (clusters (drop l.glyph-index l.glyphs)) ≡ list_all (λ n. has_number (character_starts l.text) n) (clusters l.glyphs)
