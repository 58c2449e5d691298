use Rattle.std.proofs.Common.{ap, arith, sym, ◌∙◌}
use Rattle.buffer_glyphs.specs.Glyphs.{glyphs_renumbered}
use Rattle.buffer_glyphs.proofs.Ends.{renamed_self, StopsAt, renamed_front, stops_at}
use Rattle.buffer_glyphs.proofs.runs.rename_front.Goals as goal
use Rattle.buffer_glyphs.proofs.runs.rename_front.Goals.{then-loop-at-test+else-glyphs-at, else-loop-at-test}

pub returns : goal.returns
returns c =
    let inv = c.loop-at.invariant in
    let stop : StopsAt c.args.cluster c.loop-at.at c.args.glyphs.now =
    elim c.loop-at-test.branch [ then-loop-at-test+else-glyphs-at w ↦ stops_at c.args.cluster c.loop-at.at c.args.glyphs.now _ w.if-glyphs-at.false | else-loop-at-test w ↦ λ d lt. absurd (omega (arith, w.loop-at-test.false)) ] in
    renamed_front c.args.cluster c.args.low c.loop-at.at c.args.glyphs.now c.set_clusters.new.glyphs c.requires stop inv.passed c.set_clusters.ensures

pub returns-then-cluster-low : goal.returns-then-cluster-low
returns-then-cluster-low c = sym (ap (λ n. glyphs_renumbered c.args.cluster n c.args.glyphs.now) (sym c.if-cluster-low.true) ∙ renamed_self c.args.cluster c.args.glyphs.now)
