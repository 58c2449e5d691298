use Rattle.std.proofs.Common.{arith}
use Rattle.script_khmer.proofs.KhmerWalk.{all_walked}
use Rattle.script_khmer.proofs.khmer.reorder_from_second.Goals as goal

pub returns : goal.returns
returns c =
    let past = c.loop-walk-test.false in
    all_walked c.args.masks.now c.args.start c.args.end c.loop-walk.walk.index c.loop-walk.walk.count c.args.buffer.now c.loop-walk.buffer c.requires.ordered (omega (arith, past)) c.loop-walk.invariant.0
