use Rattle.std.proofs.Common.{◌+◌, arith}
use Rattle.std.proofs.lemmas.Grind.{common_steps}
use Rattle.font_cff.specs.Selects.{range_of_three}
use Rattle.font_bytes.proofs.Recorded.{records_more, records_end}
use Rattle.font_cff.proofs.Lists.{selects_step}
use Rattle.font_cff.proofs.selects.read_threes.Goals as goal

pub loop-index-preserved : goal.loop-index-preserved
loop-index-preserved c =
    let more = records_more (range_of_three c.args.table.now) 3 (c.args.at + 2) c.from-count.result c.loop-index.index (omega arith) in
    grind (arith, common_steps, selects_step, more)

pub returns-clause-ok : goal.returns-clause-ok
returns-clause-ok c =
    let end = records_end (range_of_three c.args.table.now) 3 (c.args.at + 2) c.from-count.result c.loop-index.index (omega arith) in
    grind (arith, common_steps, end)
