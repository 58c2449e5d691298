use Rattle.std.proofs.Common.{◌≡◌, ◌-◌, ◌++◌}
use Rattle.font_metrics.specs.Values.{value_rows}
use Rattle.font_metrics.specs.Origins.{vorg_origin}
use Rattle.font_metrics.proofs.origins.recorded_origins.Given as goal

-- the rows so far and those of the glyphs that are left are all
abbrev pub invariant-loop-glyph : goal.invariant-loop-glyph
invariant-loop-glyph l = l.rows.items ++ value_rows (vorg_origin l.records l.heights) l.glyph (l.count - l.glyph) ≡ value_rows (vorg_origin l.records l.heights) 0 l.count
