use Rattle.std.proofs.Common.{◌+◌, ◌*◌, ◌-◌, arith}
use Rattle.std.proofs.lemmas.Grind.{common_steps}
use Rattle.font_kern.proofs.Listed.{listed_more, listed_end}
use Rattle.font_kern.proofs.classes.listed_values.Goals as goal
use Rattle.buffer_facts.proofs.Lists.{one_done}

pub loop-index-preserved : goal.loop-index-preserved
loop-index-preserved c =
    let more = listed_more c.args.table.now c.args.at c.args.first c.args.count c.loop-index.index (omega arith) in
    grind (arith, common_steps, one_done, more)

pub returns : goal.returns
returns c =
    let end = listed_end c.args.table.now (c.args.at + 2 * c.loop-index.index) (c.args.first + c.loop-index.index) (c.args.count - c.loop-index.index) (omega arith) in
    grind (arith, common_steps, end)
