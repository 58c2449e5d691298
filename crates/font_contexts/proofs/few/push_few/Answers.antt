use Rattle.std.proofs.Common.{◌+◌, arith}
use Rattle.std.proofs.lemmas.Grind.{common_steps}
use Rattle.font_bytes.proofs.Recorded.{records_more, records_end}
use Rattle.font_bytes.specs.Words.{word}
use Rattle.font_contexts.proofs.few.push_few.Goals as goal

pub loop-index-preserved : goal.loop-index-preserved
loop-index-preserved g c =
    let more = records_more (word c.args.table.now) 2 c.args.at c.args.count c.loop-index.index (omega arith) in
    let size = c.loop-index.invariant.size in
    let grown = c.push.ensures.len in
    record {
      all = grind (arith, common_steps, more);
      size = omega (arith, size, grown);
    }

pub returns : goal.returns
returns g c =
    let end = records_end (word c.args.table.now) 2 c.args.at c.args.count c.loop-index.index (omega arith) in
    grind (arith, common_steps, end)
