use Rattle.std.proofs.Common.{ap, arith, sym, ◌∙◌}
use Rattle.buffer_glyphs.specs.Glyphs.{glyphs_renumbered}
use Rattle.buffer_glyphs.proofs.Ends.{renamed_self, StopsBefore, renamed_back, stops_before}
use Rattle.buffer_glyphs.proofs.runs.rename_back.Goals as goal
use Rattle.buffer_glyphs.proofs.runs.rename_back.Goals.{then-loop-at-test+else-glyphs-at, else-loop-at-test}

pub returns : goal.returns
returns c =
    let inv = c.loop-at.invariant in
    let stop : StopsBefore c.args.cluster c.loop-at.at c.args.glyphs.now =
    elim c.loop-at-test.branch [ then-loop-at-test+else-glyphs-at w ↦ stops_before c.args.cluster c.loop-at.at c.args.glyphs.now _ inv.within w.if-glyphs-at.false | else-loop-at-test w ↦ λ d lt. absurd (omega (arith, w.loop-at-test.false)) ] in
    renamed_back c.args.cluster c.args.low c.loop-at.at c.args.glyphs.now c.set_clusters.new.glyphs inv.within c.requires stop inv.passed c.set_clusters.ensures

pub returns-then-cluster-low : goal.returns-then-cluster-low
returns-then-cluster-low c = sym (ap (λ n. glyphs_renumbered c.args.cluster n c.args.glyphs.now) (sym c.if-cluster-low.true) ∙ renamed_self c.args.cluster c.args.glyphs.now)
