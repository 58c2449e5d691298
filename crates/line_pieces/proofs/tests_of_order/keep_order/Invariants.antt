use Rattle.std.proofs.Common.{◌≡◌, drop}
use Rattle.kuspveli.specs.buffer_glyphs.Items.{clusters}
use Rattle.kuspveli.specs.buffer_parts.Slices.{first_or}
use Rattle.line_pieces.specs.Steps.{keep_order}
use Rattle.line_pieces.proofs.tests_of_order.keep_order.Given as goal

-- the clusters that are left keep the order exactly where all do
abbrev pub invariant-loop-glyph : goal.invariant-loop-glyph
invariant-loop-glyph l = keep_order l.backward l.last (clusters (drop l.glyph-index l.glyphs)) ≡ keep_order l.backward (first_or 0 (clusters l.glyphs)) (clusters l.glyphs)
