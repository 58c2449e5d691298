use Rattle.std.proofs.Common.{◌+◌, ◌-◌, ◌*◌, ◌++◌, ◌≡◌, arith}
use Rattle.std.proofs.lemmas.Grind.{common_steps}
use Rattle.font_bytes.proofs.Recorded.{records_more, records_end}
use Rattle.font_metrics.specs.Origins.{origin_record}
use Rattle.font_metrics.proofs.origins.all_records.Goals as goal

pub loop-index-preserved : goal.loop-index-preserved
loop-index-preserved c =
    let more = records_more (origin_record c.args.table.now) 4 8 c.args.count c.loop-index.index (omega arith) in
    grind (arith, common_steps, more)

pub returns-clause-ok : goal.returns-clause-ok
returns-clause-ok c =
    let end = records_end (origin_record c.args.table.now) 4 8 c.args.count c.loop-index.index (omega arith) in
    grind (arith, common_steps, end)
