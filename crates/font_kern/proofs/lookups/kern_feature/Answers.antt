use Rattle.std.proofs.Common.{◌+◌, ℕ, arith}
use Rattle.std.proofs.lemmas.Grind.{common_steps}
use Rattle.font_bytes.proofs.Recorded.{records_more, records_end}
use Rattle.font_kern.proofs.lookups.kern_feature.Goals as goal
use Rattle.buffer_facts.proofs.Lists.{one_done}

pub loop-each-preserved : goal.loop-each-preserved
loop-each-preserved c =
    let more = records_more (λ (i : ℕ). i) 2 (c.args.index + 1) c.args.count c.loop-each.each (omega arith) in
    grind (arith, common_steps, one_done, more)

pub returns : goal.returns
returns c =
    let end = records_end (λ (i : ℕ). i) 2 (c.args.index + 1) c.args.count c.loop-each.each (omega arith) in
    grind (arith, common_steps, end)
