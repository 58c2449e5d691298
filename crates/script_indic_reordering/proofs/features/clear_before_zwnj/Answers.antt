use Rattle.std.proofs.Common.{arith}
use Rattle.script_indic_reordering.proofs.Lemmas.Walks.{clearing_next}
use Rattle.script_indic_reordering.proofs.features.clear_before_zwnj.Goals as goal

pub loop-i-preserved : goal.loop-i-preserved
loop-i-preserved c =
    let high = c.loop-i-test.true in
    clearing_next c.args.bits c.loop-i.i c.loop-i.is_before c.continues-is_before.result c.args.glyphs.now c.loop-i.glyphs _ c.without_bits_if.result (omega (arith, high)) c.loop-i.invariant c.without_bits_if.ensures.item c.without_bits_if.ensures.origin c.continues-is_before.ensures
