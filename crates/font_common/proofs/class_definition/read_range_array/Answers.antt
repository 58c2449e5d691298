use Rattle.std.proofs.Common.{◌+◌, arith}
use Rattle.std.proofs.lemmas.Grind.{common_steps}
use Rattle.font_common.specs.ClassDefinition.{class_range_record}
use Rattle.font_bytes.proofs.Recorded.{records_more, records_end}
use Rattle.font_common.proofs.Classes.{class_ranges_step}
use Rattle.font_common.proofs.class_definition.read_range_array.Goals as goal

pub loop-index-preserved : goal.loop-index-preserved
loop-index-preserved c =
    let more = records_more (class_range_record c.args.table.now) 6 c.args.from c.args.count c.loop-index.index (omega arith) in
    grind (arith, common_steps, class_ranges_step, more)

pub returns-clause-ok : goal.returns-clause-ok
returns-clause-ok c =
    let end = records_end (class_range_record c.args.table.now) 6 c.args.from c.args.count c.loop-index.index (omega arith) in
    grind (arith, common_steps, end)
