use Rattle.std.proofs.Common.{arith}
use Rattle.script_indic_reordering.proofs.Lemmas.Walks.{basing_here, basing_next}
use Rattle.script_indic_reordering.proofs.positions.set_base_position.Goals as goal

pub returns-then-i-base : goal.returns-then-i-base
returns-then-i-base c =
    let many = c.loop-i.invariant.written.many in
    let lt = c.loop-i-test.true in
    basing_here c.args.base c.loop-i.i c.args.glyphs.now c.loop-i.glyphs _ c.with_position.result (omega (arith, many, lt)) c.if-i-base.true c.loop-i.invariant c.with_position.ensures.item c.with_position.ensures.origin

pub loop-i-preserved : goal.loop-i-preserved
loop-i-preserved c =
    let many = c.loop-i.invariant.written.many in
    let lt = c.loop-i-test.true in
    basing_next c.args.base c.loop-i.i c.args.glyphs.now c.loop-i.glyphs _ c.before_base.result (omega (arith, many, lt)) c.if-i-base.false c.loop-i.invariant c.before_base.ensures.item c.before_base.ensures.origin
