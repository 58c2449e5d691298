use Rattle.std.proofs.Common.{◌++◌, arith}
use Rattle.std.proofs.lemmas.Grind.{common_steps}
use Rattle.font_cmap.specs.Rows.{rows_in}
use Rattle.font_cmap.specs.Encoded.{row_glyph}
use Rattle.font_cmap.proofs.Steps.{low_pushed, rows_end}
use Rattle.font_cmap.proofs.encoded.push_ascii.Goals as goal

pub loop-code-preserved : goal.loop-code-preserved
loop-code-preserved c =
    let pushed = low_pushed (row_glyph c.args.rows.now) c.loop-code.all.items (c.args.all.now.items ++ rows_in (row_glyph c.args.rows.now) 0 128) 128 c.loop-code.code (omega arith) c.loop-code.invariant in
    let glyph = c.row_glyph.ensures in
    let rows = c.in_ok-push_row.ensures.ok in
    cc (pushed, glyph, rows)

pub returns-clause-ok : goal.returns-clause-ok
returns-clause-ok c =
    let end = rows_end (row_glyph c.args.rows.now) c.loop-code.code 128 c.loop-code.code (omega arith) in
    grind (arith, common_steps, end)
