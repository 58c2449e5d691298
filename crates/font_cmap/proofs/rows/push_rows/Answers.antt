use Rattle.std.proofs.Common.{◌+◌, arith}
use Rattle.std.proofs.lemmas.Grind.{common_steps}
use Rattle.font_cmap.specs.Ranges.{glyph_in}
use Rattle.font_cmap.proofs.Steps.{rows_end}
use Rattle.font_cmap.proofs.rows.push_rows.Goals as goal

pub returns-clause-ok : goal.returns-clause-ok
returns-clause-ok c =
    let end = rows_end (glyph_in c.args.table.now c.args.range) (c.args.from + c.loop-offset.offset) c.args.count c.loop-offset.offset (omega arith) in
    grind (arith, common_steps, end)
