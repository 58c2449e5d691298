use Rattle.std.proofs.Common.{◌+◌, arith}
use Rattle.std.proofs.lemmas.Grind.{common_steps}
use Rattle.font_bytes.specs.Words.{word}
use Rattle.font_bytes.proofs.Recorded.{records_more, records_end}
use Rattle.font_lists.proofs.Kept.{known_step}
use Rattle.font_lists.proofs.scripts.read_known_indices.Goals as goal

pub loop-position-preserved : goal.loop-position-preserved
loop-position-preserved c =
    let more = records_more (word c.args.table.now) 2 c.args.at c.args.count c.loop-position.position (omega arith) in
    grind (arith, common_steps, known_step, more)

pub returns-clause-ok : goal.returns-clause-ok
returns-clause-ok c =
    let end = records_end (word c.args.table.now) 2 c.args.at c.args.count c.loop-position.position (omega arith) in
    grind (arith, common_steps, end)
