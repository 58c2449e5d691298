use Rattle.std.proofs.Common.{◌≡◌, ◌-◌, ◌++◌}
use Rattle.font_metrics.specs.Values.{value_rows}
use Rattle.font_metrics.specs.Origins.{box_origin_at}
use Rattle.font_metrics.proofs.origins.box_origins.Given as goal

-- the rows so far and those of the glyphs that are left are all
abbrev pub invariant-loop-glyph : goal.invariant-loop-glyph
invariant-loop-glyph l = l.rows.items ++ value_rows (box_origin_at l.boxes l.vmtx l.long l.line) l.glyph (l.count - l.glyph) ≡ value_rows (box_origin_at l.boxes l.vmtx l.long l.line) 0 l.count
