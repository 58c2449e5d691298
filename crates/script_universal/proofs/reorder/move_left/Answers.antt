use Rattle.std.proofs.Common.{arith}
use Rattle.script_universal.proofs.LeftRanges.{all_walked, both_walked}
use Rattle.script_universal.proofs.reorder.move_left.Goals as goal

pub loop-i-preserved : goal.loop-i-preserved
loop-i-preserved c = both_walked c.args.start c.args.end 0 c.loop-i.i c.move_left_from-i.result c.args.buffer.now c.loop-i.buffer c.move_left_from-i.new.buffer c.loop-i.invariant c.move_left_from-i.ensures.walked

pub returns : goal.returns
returns c = let past = c.loop-i-test.false in all_walked c.args.start c.args.end c.loop-i.i c.args.buffer.now c.loop-i.buffer c.requires.ordered (omega (arith, past)) c.loop-i.invariant
