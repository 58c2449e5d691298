use Rattle.std.proofs.Common.{◌+◌, ℕ, arith}
use Rattle.std.proofs.lemmas.Grind.{common_steps}
use Rattle.font_bytes.proofs.Recorded.{records_more, records_end}
use Rattle.font_kern.specs.Classes.{class_record}
use Rattle.font_kern.proofs.classes.read_records.Goals as goal
use Rattle.buffer_facts.proofs.Lists.{one_done}

pub loop-index-preserved : goal.loop-index-preserved
loop-index-preserved c =
    let more = records_more (λ (o : ℕ). class_record c.args.is_backward c.args.table.now c.args.inner.width c.args.inner.count o) c.args.outer.width c.args.at c.args.outer.count c.loop-index.index (omega arith) in
    grind (arith, common_steps, one_done, more)

pub returns : goal.returns
returns c =
    let end = records_end (λ (o : ℕ). class_record c.args.is_backward c.args.table.now c.args.inner.width c.args.inner.count o) c.args.outer.width c.args.at c.args.outer.count c.loop-index.index (omega arith) in
    grind (arith, common_steps, end)
