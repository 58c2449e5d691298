use Rattle.std.proofs.Common.{◌++◌, arith}
use Rattle.std.proofs.lemmas.Grind.{common_steps}
use Rattle.font_cmap.specs.Rows.{rows_in}
use Rattle.font_cmap.specs.Encoded.{row_glyph, symbol_glyph}
use Rattle.font_cmap.proofs.Steps.{low_pushed, rows_end}
use Rattle.font_cmap.proofs.encoded.push_low.Goals as goal

pub loop-number-preserved : goal.loop-number-preserved
loop-number-preserved c =
    let pushed = low_pushed (symbol_glyph (row_glyph c.args.rows.now)) c.loop-number.low.items (c.args.low.now.items ++ rows_in (symbol_glyph (row_glyph c.args.rows.now)) 0 256) 256 c.loop-number.number (omega arith) c.loop-number.invariant in
    let glyph = c.symbol_glyph.ensures in
    let rows = c.in_ok-push_row.ensures.ok in
    cc (pushed, glyph, rows)

pub returns-clause-ok : goal.returns-clause-ok
returns-clause-ok c =
    let end = rows_end (symbol_glyph (row_glyph c.args.rows.now)) c.loop-number.number 256 c.loop-number.number (omega arith) in
    grind (arith, common_steps, end)
