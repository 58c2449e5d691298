use Rattle.std.proofs.Common.{◌≡◌, ◌+◌, ◌-◌, ◌++◌, Some, None, true, sym, subst, arith, List, ℕ}
use Rattle.std.specs.Ordering.{nat_cmp}
use Rattle.buffer_rows.specs.Keys.{is_rising}
use Rattle.layout_common.specs.declared.glyph_row.GlyphRow.{GlyphRow}
use Rattle.font_metrics.specs.Values.{value_rows}
use Rattle.font_metrics.proofs.Rows.{value_pushed, value_end, value_rows_rise}
use Rattle.font_metrics.proofs.advances.height_rows.Goals as goal

pub loop-glyph-preserved : goal.loop-glyph-preserved
loop-glyph-preserved c =
    let pushed = value_pushed (λ _. Some c.in-Some.height) c.loop-glyph.rows.items (value_rows (λ _. Some c.in-Some.height) 0 c.args.count) c.args.count c.loop-glyph.glyph (omega arith) c.loop-glyph.invariant in
    let rows = c.in_ok-push_value.ensures.ok in
    cc (pushed, rows)

pub new-requires-2 : goal.new-requires-2
new-requires-2 c =
    let all : c.loop-glyph.rows.items ≡ value_rows (λ _. Some c.in-Some.height) 0 c.args.count = value_end (λ _. Some c.in-Some.height) c.loop-glyph.rows.items (value_rows (λ _. Some c.in-Some.height) 0 c.args.count) c.loop-glyph.glyph c.args.count (omega arith) c.loop-glyph.invariant in
    subst (λ (rows : List (GlyphRow ℕ)). is_rising nat_cmp (λ r. r.glyph) None rows ≡ true) (sym all) (value_rows_rise (λ _. Some c.in-Some.height) c.args.count)
