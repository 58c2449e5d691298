use Rattle.std.proofs.Common.{arith}
use Rattle.std.proofs.lemmas.Grind.{common_steps}
use Rattle.font_bytes.proofs.Recorded.{records_more, records_end}
use Rattle.font_cmap.specs.Ranges.{range_at, form_width}
use Rattle.font_cmap.specs.Rows.{ranges_of}
use Rattle.font_cmap.proofs.Steps.{range_pushed}
use Rattle.font_cmap.proofs.rows.push_ranges.Goals as goal

pub loop-index-preserved : goal.loop-index-preserved
loop-index-preserved c =
    let more = records_more (range_at c.args.table.now c.args.ranges.form) (form_width c.args.ranges.form) c.args.ranges.at c.args.ranges.count c.loop-index.index (omega arith) in
    grind (arith, common_steps, range_pushed, more)

pub returns-clause-ok : goal.returns-clause-ok
unfolding ranges_of
returns-clause-ok c =
    let end = records_end (range_at c.args.table.now c.args.ranges.form) (form_width c.args.ranges.form) c.args.ranges.at c.args.ranges.count c.loop-index.index (omega arith) in
    grind (arith, common_steps, end)
