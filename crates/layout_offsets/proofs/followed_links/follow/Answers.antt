use Rattle.std.proofs.Common.{◌-◌, length, rules}
use Rattle.layout_offsets.specs.FollowedLinks.{with_link_followed}
use Rattle.layout_offsets.specs.AdvanceSums.{drawing}
use Rattle.layout_offsets.proofs.Drawings.{is_drawing}
use Rattle.layout_offsets.proofs.Going.{coming_first, coming_here, coming_came, coming_next, coming_done}
use Rattle.layout_offsets.proofs.followed_links.follow.Goals as goal

pub loop-step-init : goal.loop-step-init
loop-step-init c =
    let ps = c.args.positions.now in
    coming_first (drawing c.args.by_sums c.args.direction) (with_link_followed (drawing c.args.by_sums c.args.direction) (length ps) c.args.start ps) (length ps) c.walk_links-walk.result.last.at c.walk_links-walk.result.last.by c.walk_links-walk.result.depth c.walk_links-walk.new.positions (c.walk_links-walk.ensures (drawing c.args.by_sums c.args.direction))

pub step_to_child-last-requires-clause-here : goal.step_to_child-last-requires-clause-here
step_to_child-last-requires-clause-here c =
    let ps = c.args.positions.now in
    coming_here (drawing c.args.by_sums c.args.direction) (with_link_followed (drawing c.args.by_sums c.args.direction) (length ps) c.args.start ps) (length ps) c.loop-step.last.at c.loop-step.last.by (c.walk_links-walk.result.depth - c.loop-step._step) c.loop-step.positions c.loop-step.invariant

pub step_to_child-last-requires-clause-came : goal.step_to_child-last-requires-clause-came
step_to_child-last-requires-clause-came c =
    let ps = c.args.positions.now in
    coming_came (drawing c.args.by_sums c.args.direction) (with_link_followed (drawing c.args.by_sums c.args.direction) (length ps) c.args.start ps) (length ps) c.loop-step.last.at c.loop-step.last.by c.loop-step._step c.walk_links-walk.result.depth c.loop-step.positions c.loop-step.invariant c.loop-step-test.true

pub loop-step-preserved : goal.loop-step-preserved
loop-step-preserved c =
    let ps = c.args.positions.now in
    coming_next (drawing c.args.by_sums c.args.direction) (is_drawing c.args.by_sums c.args.direction) (with_link_followed (drawing c.args.by_sums c.args.direction) (length ps) c.args.start ps) (length ps) c.loop-step.last.at c.loop-step.last.by c.loop-step._step c.walk_links-walk.result.depth c.loop-step.positions c.step_to_child-last.new.positions c.step_to_child-last.result.at c.step_to_child-last.result.by c.loop-step.invariant c.loop-step-test.true c.step_to_child-last.ensures

pub returns-clause-drawn : goal.returns-clause-drawn
returns-clause-drawn c =
    let ps = c.args.positions.now in
    (coming_done (drawing c.args.by_sums c.args.direction) (with_link_followed (drawing c.args.by_sums c.args.direction) (length ps) c.args.start ps) (length ps) c.loop-step.last.at c.loop-step.last.by c.loop-step._step c.walk_links-walk.result.depth c.loop-step.positions c.loop-step.invariant (search rules)).0

pub returns-clause-shut : goal.returns-clause-shut
returns-clause-shut c =
    let ps = c.args.positions.now in
    (coming_done (drawing c.args.by_sums c.args.direction) (with_link_followed (drawing c.args.by_sums c.args.direction) (length ps) c.args.start ps) (length ps) c.loop-step.last.at c.loop-step.last.by c.loop-step._step c.walk_links-walk.result.depth c.loop-step.positions c.loop-step.invariant (search rules)).1
