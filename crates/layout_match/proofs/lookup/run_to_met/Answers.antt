use Rattle.std.proofs.Common.{◌&&◌}
use Rattle.buffer_glyphs.specs.Items.{Item, strip}
use Rattle.layout_match.specs.Applied.{apply_context_of}
use Rattle.layout_match.specs.Trying.{meets}
use Rattle.layout_match.proofs.Lemmas.Idle.{none_first, none_next}
use Rattle.layout_match.proofs.lookup.run_to_met.Goals as goal

pub loop-at-init : goal.loop-at-init
loop-at-init g c = none_first (λ (x : Item). meets (apply_context_of c.args.ctx.now) x && g.S.Covers.covers c.args.subtables.now x.number) (strip c.args.buffer.now.ahead)

pub loop-at-preserved : goal.loop-at-preserved
loop-at-preserved g c =
    let a = apply_context_of c.args.ctx.now in
    let covers = g.S.Covers.covers c.args.subtables.now in
    let info = c.cur.result.now in
    none_next (λ (x : Item). meets a x && covers x.number) c.args.buffer.now.ahead c.loop-at.at info c.cur.ensures c.loop-at.invariant (c.may_act_at.ensures.idle c.if-may_act_at.false)
