use Rattle.std.proofs.Common.{◌+◌, ◌-◌, ◌*◌, ◌++◌, arith}
use Rattle.std.proofs.lemmas.Grind.{common_steps}
use Rattle.font_bytes.specs.Records.{records}
use Rattle.font_bytes.proofs.Recorded.{records_more, records_end}
use Rattle.font_cmap.specs.Encoded.{row_glyph}
use Rattle.std.specs.List.{flat_map}
use Rattle.font_cmap.specs.Variations.{range_rows, itself}
use Rattle.font_cmap.proofs.Varied.{flat_pushed}
use Rattle.font_cmap.proofs.variations.push_ranges.Goals as goal

pub loop-index-preserved : goal.loop-index-preserved
loop-index-preserved c =
    let at = c.args.at + 4 * c.loop-index.index in
    let more = records_more itself 4 c.args.at c.args.count c.loop-index.index (omega arith) in
    let pushed = flat_pushed (range_rows c.args.table.now (row_glyph c.args.usual.now) c.args.selector) c.loop-index.rows.items (c.args.rows.now.items ++ flat_map (range_rows c.args.table.now (row_glyph c.args.usual.now) c.args.selector) (records itself 4 c.args.at c.args.count)) at (records itself 4 at (c.args.count - c.loop-index.index)) (records itself 4 (c.args.at + 4 * (c.loop-index.index + 1)) (c.args.count - (c.loop-index.index + 1))) more c.loop-index.invariant in
    let rows = c.in_ok-push_range.ensures.ok in
    cc (pushed, rows)

pub returns-clause-ok : goal.returns-clause-ok
returns-clause-ok c =
    let end = records_end itself 4 c.args.at c.args.count c.loop-index.index (omega arith) in
    grind (arith, common_steps, end)
