use Rattle.std.specs.Prelude.{slice_range}
use Rattle.std.specs.List.{fold}
use Rattle.layout_offsets.specs.FollowedLinks.{on_over}
use Rattle.layout_offsets.proofs.Between.{between_next}
use Rattle.layout_offsets.proofs.followed_links.on_between.Goals as goal

pub loop-i-preserved : goal.loop-i-preserved
loop-i-preserved c =
    let s = c.loop-i in
    let ps = c.args.positions.now in
    between_next on_over (fold on_over c.args.position (slice_range ps c.args.from c.args.to)) s.moved c.on_over-moved.result s.i c.args.to ps s.invariant c.loop-i-test.true c.requires c.on_over-moved.ensures
