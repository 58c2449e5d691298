use Rattle.std.proofs.Common.{◌+◌, arith}
use Rattle.std.proofs.lemmas.Grind.{common_steps}
use Rattle.font_common.specs.Coverage.{range_record, range_length}
use Rattle.font_bytes.proofs.Recorded.{records_more, records_end}
use Rattle.font_common.proofs.Coverages.{length-glyph_run, ranges_step}
use Rattle.font_common.proofs.coverage.read_ranges.Goals as goal

pub loop-index-preserved : goal.loop-index-preserved
loop-index-preserved c =
    let r = c.range_record-range.result in
    let more = records_more (range_record c.args.table.now) 6 (c.args.at + 4) c.from-count.result c.loop-index.index (omega arith) in
    let long = length-glyph_run r.first (range_length r) in
    grind (arith, common_steps, ranges_step, more, long)

pub returns-clause-ok : goal.returns-clause-ok
returns-clause-ok c =
    let end = records_end (range_record c.args.table.now) 6 (c.args.at + 4) c.from-count.result c.loop-index.index (omega arith) in
    grind (arith, common_steps, end)
