use Rattle.std.proofs.Common.{arith, sym, ◌∙◌}
use Rattle.script_indic_reordering.proofs.Lemmas.Walks.{seeking_next}
use Rattle.script_indic_reordering.proofs.base.base_from.Goals as goal

pub loop-i-preserved : goal.loop-i-preserved
loop-i-preserved c =
    let high = c.loop-i-test.true in (
      seeking_next c.args.glyphs.now c.loop-i.i c.loop-i.first c.first_with-first.result c.loop-i.has_below c.below_with-has_below.result _ (omega (arith, high)) (sym c.may_be_base.ensures ∙ c.if-may_be_base.false) c.first_with-first.ensures c.below_with-has_below.ensures c.loop-i.invariant.0,
      omega (arith, high),
    )
