use Rattle.std.proofs.Common.{◌+◌, ◌-◌, ◌*◌, arith}
use Rattle.std.proofs.lemmas.Grind.{common_steps}
use Rattle.font_bytes.specs.Records.{records}
use Rattle.font_bytes.proofs.Recorded.{records_more, records_end}
use Rattle.font_cmap.specs.Encoded.{row_glyph}
use Rattle.font_cmap.specs.Variations.{itself}
use Rattle.font_cmap.proofs.Varied.{selectors_pushed}
use Rattle.font_cmap.proofs.variations.read_selectors.Goals as goal

pub loop-index-preserved : goal.loop-index-preserved
loop-index-preserved c =
    let at = c.args.base + 10 + 11 * c.loop-index.index in
    let rest = records itself 11 (c.args.base + 10 + 11 * (c.loop-index.index + 1)) (c.args.count - (c.loop-index.index + 1)) in
    let more = records_more itself 11 (c.args.base + 10) c.args.count c.loop-index.index (omega arith) in
    selectors_pushed c.args.table.now (row_glyph c.args.usual.now) c.args.base c.loop-index.rows.items c.read_selector.new.rows.items c.loop-index.room.left c.read_selector.new.room.left at rest
    (records itself 11 at (c.args.count - c.loop-index.index)) _ more c.in_ok-read_selector.ensures.ok c.loop-index.invariant

pub returns-clause-ok : goal.returns-clause-ok
returns-clause-ok c =
    let end = records_end itself 11 (c.args.base + 10) c.args.count c.loop-index.index (omega arith) in
    grind (arith, common_steps, end)
