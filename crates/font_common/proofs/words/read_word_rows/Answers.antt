use Rattle.std.proofs.Common.{◌+◌, ◌*◌, ◌-◌, arith}
use Rattle.std.proofs.lemmas.Grind.{common_steps}
use Rattle.font_bytes.specs.Words.{word}
use Rattle.font_bytes.specs.Records.{records}
use Rattle.font_bytes.proofs.Recorded.{records_more}
use Rattle.font_common.specs.Rows.{word_row}
use Rattle.font_common.proofs.Covered.{covered_more, covered_end}
use Rattle.font_common.proofs.words.read_word_rows.Goals as goal
use Rattle.buffer_facts.proofs.Lists.{one_done}

pub loop-index-preserved : goal.loop-index-preserved
loop-index-preserved c =
    let bytes = c.args.table.now in
    let index = c.loop-index.index in
    let more = records_more (word bytes) 2 c.args.at c.args.count index (omega arith) in
    let row = covered_more word_row c.args.glyphs.now (word bytes (c.args.at + 2 * index)) (records (word bytes) 2 (c.args.at + 2 * (index + 1)) (c.args.count - (index + 1))) index (omega arith) in
    grind (arith, common_steps, one_done, more, row)

pub returns-clause-ok : goal.returns-clause-ok
returns-clause-ok c =
    let end = covered_end word_row c.args.glyphs.now (word c.args.table.now) 2 c.args.at c.args.count c.loop-index.index (λ h. omega (arith, h)) in
    grind (arith, common_steps, end)
