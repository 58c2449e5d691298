use Rattle.std.proofs.Common.{rules}
use Rattle.layout_offsets.proofs.Ended.{cleared_next}
use Rattle.layout_offsets.proofs.finish.clear_links.Goals as goal

pub loop-i-preserved : goal.loop-i-preserved
loop-i-preserved c =
    let s = c.loop-i in
    cleared_next c.args.positions.now s.positions c.clear_link.new.positions s.i s.invariant (search rules) c.clear_link.ensures
