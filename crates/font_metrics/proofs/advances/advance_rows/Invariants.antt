use Rattle.std.proofs.Common.{◌≡◌, ◌-◌, ◌++◌, Some}
use Rattle.font_metrics.specs.Values.{value_rows}
use Rattle.font_metrics.specs.Advances.{advance_at}
use Rattle.font_metrics.proofs.advances.advance_rows.Given as goal

-- the rows so far and those of the glyphs that are left are all
abbrev pub invariant-loop-glyph : goal.invariant-loop-glyph
invariant-loop-glyph l = l.rows.items ++ value_rows (λ g. Some (advance_at l.table l.long g)) l.glyph (l.count - l.glyph) ≡ value_rows (λ g. Some (advance_at l.table l.long g)) 0 l.count
