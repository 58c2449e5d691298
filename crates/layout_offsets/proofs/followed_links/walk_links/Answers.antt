use Rattle.std.proofs.Common.{length, refl, rules}
use Rattle.layout_offsets.specs.FollowedLinks.{Drawing, with_link_followed}
use Rattle.layout_offsets.proofs.Going.{going_first, going_next, going_stopped, going_done, goes_here}
use Rattle.layout_offsets.proofs.followed_links.walk_links.Goals as goal

pub loop-depth-init : goal.loop-depth-init
loop-depth-init c =
    let ps = c.args.positions.now in
    (λ draw. going_first draw (length ps) c.args.start ps refl c.requires.here c.requires.shut, refl, c.requires.here)

pub returns-in_default : goal.returns-in_default
returns-in_default c =
    let ps = c.args.positions.now in
    going_stopped (λ (draw : Drawing). with_link_followed draw (length ps) c.args.start ps) (length ps) c.loop-depth.depth c.loop-depth.last.at c.loop-depth.last.by c.loop-depth.positions c.step_to_parent.new.positions c.loop-depth.invariant.0 c.loop-depth-test.true c.in_default.ensures

pub loop-depth-preserved : goal.loop-depth-preserved
loop-depth-preserved c =
    let ps = c.args.positions.now in (
      going_next (λ (draw : Drawing). with_link_followed draw (length ps) c.args.start ps) (length ps) c.loop-depth.depth c.loop-depth.last.at c.loop-depth.last.by c.loop-depth.positions c.step_to_parent.new.positions c.in-Some.step.at c.in-Some.step.by c.loop-depth.invariant.0 c.loop-depth-test.true c.in-Some.ensures,
      refl,
      goes_here c.in-Some.step.at c.in-Some.step.by c.loop-depth.last.at c.loop-depth.last.by c.loop-depth.positions c.step_to_parent.new.positions c.in-Some.ensures,
    )

pub returns : goal.returns
returns c =
    let ps = c.args.positions.now in
    going_done (λ (draw : Drawing). with_link_followed draw (length ps) c.args.start ps) (length ps) c.loop-depth.depth c.loop-depth.last.at c.loop-depth.last.by c.loop-depth.positions c.loop-depth.invariant.0 (search rules)
