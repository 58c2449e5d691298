use Rattle.std.proofs.Common.{◌+◌, ◌++◌, arith}
use Rattle.std.proofs.lemmas.Grind.{common_steps}
use Rattle.font_cmap.specs.Encoded.{row_glyph}
use Rattle.font_cmap.specs.Variations.{variants_in}
use Rattle.font_cmap.proofs.Varied.{variant_pushed, variants_end}
use Rattle.font_cmap.proofs.variations.push_usual.Goals as goal

pub loop-offset-preserved : goal.loop-offset-preserved
loop-offset-preserved c =
    let pushed = variant_pushed (row_glyph c.args.usual.now) c.loop-offset.rows.items (c.args.rows.now.items ++ variants_in (row_glyph c.args.usual.now) c.args.selector c.args.first c.args.count) c.args.selector c.args.first c.args.count c.loop-offset.offset (omega arith) c.loop-offset.invariant in
    let glyph = c.row_glyph.ensures in
    let rows = c.in_ok-push_variation.ensures.ok in
    cc (pushed, glyph, rows)

pub returns-clause-ok : goal.returns-clause-ok
returns-clause-ok c =
    let end = variants_end (row_glyph c.args.usual.now) c.args.selector (c.args.first + c.loop-offset.offset) c.args.count c.loop-offset.offset (omega arith) in
    grind (arith, common_steps, end)
