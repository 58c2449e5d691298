use Rattle.std.proofs.Common.{◌≡◌, ◌-◌, ◌++◌}
use Rattle.font_metrics.specs.Values.{value_rows}
use Rattle.font_metrics.specs.Extents.{extents_at}
use Rattle.font_metrics.proofs.extents.extent_rows.Given as goal

-- the rows so far and those of the glyphs that are left are all
abbrev pub invariant-loop-glyph : goal.invariant-loop-glyph
invariant-loop-glyph l = l.rows.items ++ value_rows (extents_at l.boxes) l.glyph (l.count - l.glyph) ≡ value_rows (extents_at l.boxes) 0 l.count
