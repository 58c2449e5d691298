use Rattle.std.proofs.Common.{sym, ◌∙◌}
use Rattle.layout_gsub.proofs.Renumbered.{one_following, following_stops}
use Rattle.layout_gsub.proofs.ligate.renumber_following.Goals as goal

pub returns-then-not-is_mark_of : goal.returns-then-not-is_mark_of
returns-then-not-is_mark_of c =
    let n = c.args.numbering.now in
    following_stops n.lig_id c.args.last_lig_id n.ended n.own c.loop-at.at c.args.buffer.now c.loop-at.buffer c.cur-info.result.now c.cur-info.ensures (sym c.is_mark_of.ensures ∙ c.if-not-is_mark_of.true) c.loop-at.invariant

pub loop-at-preserved : goal.loop-at-preserved
loop-at-preserved c =
    let n = c.args.numbering.now in
    let mark = c.with_component-mark in
    one_following n.lig_id c.args.last_lig_id n.ended n.own c.loop-at.at c.args.buffer.now c.loop-at.buffer c.set_glyph.new.buffer c.cur-info.result.now mark.result c.cur-info.ensures (sym c.is_mark_of.ensures ∙ c.if-not-is_mark_of.false) mark.ensures.item mark.ensures.origin c.loop-at.invariant c.set_glyph.ensures
