use Rattle.std.proofs.Common.{◌+◌, arith}
use Rattle.std.proofs.lemmas.Grind.{common_steps}
use Rattle.font_bytes.specs.Words.{word}
use Rattle.font_bytes.proofs.Recorded.{records_more, records_end}
use Rattle.font_substitution.proofs.glyphs.read_glyph_list.Goals as goal
use Rattle.buffer_facts.proofs.Lists.{one_done}

pub loop-index-preserved : goal.loop-index-preserved
loop-index-preserved c =
    let more = records_more (word c.args.table.now) 2 c.args.at c.args.count c.loop-index.index (omega arith) in
    grind (arith, common_steps, one_done, more)

pub returns-clause-ok : goal.returns-clause-ok
returns-clause-ok c =
    let end = records_end (word c.args.table.now) 2 c.args.at c.args.count c.loop-index.index (omega arith) in
    grind (arith, common_steps, end)
