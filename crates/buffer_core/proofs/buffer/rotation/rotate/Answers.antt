use Rattle.std.proofs.Common.{◌-◌, arith}
use Rattle.buffer_core.proofs.RangeMoves.{part_moved}
use Rattle.buffer_core.proofs.buffer.rotation.rotate.Goals as goal

pub returns : goal.returns
returns c =
    let r = c.requires in
    part_moved c.args.start (c.args.middle - c.args.start) (c.args.end - c.args.middle) (c.args.end - c.args.start) c.args.glyphs.now c.rotate_left.new.self (omega (arith, r.begins, r.ordered)) (omega (arith, r.begins, r.ordered, r.within)) c.rotate_left.ensures.after
