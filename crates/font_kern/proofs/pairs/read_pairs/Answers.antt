use Rattle.std.proofs.Common.{◌+◌, arith}
use Rattle.std.proofs.lemmas.Grind.{common_steps}
use Rattle.font_bytes.proofs.Recorded.{records_more, records_end}
use Rattle.font_kern.specs.Pairs.{pair_row}
use Rattle.font_kern.proofs.pairs.read_pairs.Goals as goal
use Rattle.buffer_facts.proofs.Lists.{one_done}

pub loop-index-preserved : goal.loop-index-preserved
loop-index-preserved c =
    let more = records_more (pair_row c.args.is_backward c.args.table.now) 6 (c.args.at + 8) c.from-count.result c.loop-index.index (omega arith) in
    grind (arith, common_steps, one_done, more)

pub returns-clause-ok : goal.returns-clause-ok
returns-clause-ok c =
    let end = records_end (pair_row c.args.is_backward c.args.table.now) 6 (c.args.at + 8) c.from-count.result c.loop-index.index (omega arith) in
    grind (arith, common_steps, end)
