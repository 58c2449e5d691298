use Rattle.std.proofs.Common.{◌≡◌, ◌+◌, ◌-◌, ◌++◌, ◌∷◌, [], arith}
use Rattle.std.proofs.lemmas.Grind.{common_steps}
use Rattle.font_metrics.specs.Boxes.{glyf_boxes}
use Rattle.font_metrics.proofs.Boxed.{box_pushed}
use Rattle.font_metrics.proofs.boxes.glyf_boxes.Goals as goal

pub loop-glyph-preserved : goal.loop-glyph-preserved
loop-glyph-preserved c =
    let pushed = box_pushed c.args.loca.now c.args.is_long c.args.glyf.now c.args.hmtx.now c.args.long c.loop-glyph.glyph c.args.count c.loop-glyph.boxes.items (glyf_boxes c.args.loca.now c.args.is_long c.args.glyf.now c.args.hmtx.now c.args.long 0 c.args.count) (omega arith) c.loop-glyph.invariant in
    let items = c.in_ok-push.ensures.items in
    let outline = c.outline_box-outline.ensures in
    let bearing = c.bearing_at.ensures in
    let placed = c.placed_box.ensures in
    cc (pushed, items, outline, bearing, placed)
