use Rattle.std.proofs.Common.{◌≡◌, ◌-◌, ◌++◌, Some}
use Rattle.font_metrics.specs.Values.{value_rows}
use Rattle.font_metrics.proofs.advances.height_rows.Given as goal

-- the rows so far and those of the glyphs that are left are all
abbrev pub invariant-loop-glyph : goal.invariant-loop-glyph
invariant-loop-glyph l = l.rows.items ++ value_rows (λ _. Some l.height) l.glyph (l.count - l.glyph) ≡ value_rows (λ _. Some l.height) 0 l.count
