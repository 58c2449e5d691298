use Rattle.std.proofs.Common.{arith}
use Rattle.script_indic_reordering.proofs.Lemmas.Walks.{leading_next}
use Rattle.script_indic_reordering.proofs.positions.lead.Goals as goal

pub loop-i-preserved : goal.loop-i-preserved
loop-i-preserved c =
    let high = c.if-i-base.true in
    leading_next c.args.base c.loop-i.i c.loop-i.pos c.led_position-pos.result c.args.glyphs.now c.loop-i.glyphs _ c.led_glyph.result (omega (arith, high)) high c.loop-i.invariant c.led_glyph.ensures.item c.led_glyph.ensures.origin c.led_position-pos.ensures
