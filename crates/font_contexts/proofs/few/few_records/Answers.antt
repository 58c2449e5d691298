use Rattle.std.proofs.Common.{◌+◌, ◌≤◌, length, arith}
use Rattle.std.proofs.lemmas.Grind.{common_steps}
use Rattle.font_bytes.proofs.Recorded.{records_more, records_end}
use Rattle.font_contexts.specs.Rules.{lookup_record}
use Rattle.font_contexts.proofs.RuleSets.{known_step}
use Rattle.font_contexts.proofs.few.few_records.Goals as goal

pub loop-index-preserved : goal.loop-index-preserved
loop-index-preserved c =
    let more = records_more (lookup_record c.args.table.now) 4 c.args.array.at c.args.array.count c.loop-index.index (omega arith) in
    let size = c.loop-index.invariant.size in
    let grown = c.push_known.ensures.length in
    record {
      all = grind (arith, common_steps, known_step, more);
      size = omega (arith, size, grown);
    }

pub returns : goal.returns
returns c =
    let end = records_end (lookup_record c.args.table.now) 4 c.args.array.at c.args.array.count c.loop-index.index (omega arith) in
    grind (arith, common_steps, end)
