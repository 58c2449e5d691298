use Rattle.std.proofs.Common.{arith}
use Rattle.script_categories.specs.declared.ot_position_t.TheConstants as position
use Rattle.buffer_glyphs.specs.Items.{strip}
use Rattle.script_indic_reordering.specs.Initial.{signs_attached}
use Rattle.script_indic_reordering.proofs.Lemmas.Walks.{attaching_next}
use Rattle.script_indic_reordering.proofs.positions.attach.Goals as goal

pub loop-i-preserved : goal.loop-i-preserved
loop-i-preserved c =
    let many = c.loop-i.invariant.many in
    let lt = c.loop-i-test.true in
    attaching_next c.loop-i.pos c.attached_position-pos.result c.loop-i.i (signs_attached position.POS_START (strip c.args.glyphs.now)) c.args.glyphs.now c.loop-i.glyphs _ c.with_position.result (omega (arith, many, lt)) c.loop-i.invariant c.attached_position-pos.ensures c.with_position.ensures.item c.with_position.ensures.origin
