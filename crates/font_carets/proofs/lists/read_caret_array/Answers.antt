use Rattle.std.proofs.Common.{◌+◌, arith}
use Rattle.std.proofs.lemmas.Grind.{common_steps}
use Rattle.buffer_facts.proofs.Lists.{one_done}
use Rattle.font_bytes.proofs.Recorded.{records_more, records_end}
use Rattle.font_carets.specs.Lists.{caret_record}
use Rattle.font_carets.proofs.lists.read_caret_array.Goals as goal

pub loop-index-preserved : goal.loop-index-preserved
loop-index-preserved c =
    let more = records_more (caret_record c.args.table.now c.args.start) 2 c.args.at c.args.count c.loop-index.index (omega arith) in
    grind (arith, common_steps, one_done, more)

pub returns-clause-ok : goal.returns-clause-ok
returns-clause-ok c =
    let end = records_end (caret_record c.args.table.now c.args.start) 2 c.args.at c.args.count c.loop-index.index (omega arith) in
    grind (arith, common_steps, end)
