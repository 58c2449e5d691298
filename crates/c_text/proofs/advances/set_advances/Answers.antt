use Rattle.std.proofs.Common.{arith}
use Rattle.c_text.proofs.Advancing.{all_set, one_more_set}
use Rattle.c_text.specs.Advances.{with_advances}
use Rattle.c_text.proofs.advances.set_advances.Goals as goal

pub loop-one-preserved : goal.loop-one-preserved
loop-one-preserved c =
    one_more_set c.args.given.now c.loop-one.one-index (record { glyph = 0; advance = 0 }) c.args.face.now c.loop-one.face c.set_advance.new.face c.loop-one.invariant c.loop-one-test.true c.set_advance.ensures

pub returns : goal.returns
returns c = all_set c.args.given.now c.loop-one.one-index c.loop-one.face (with_advances c.args.given.now c.args.face.now) c.loop-one.invariant.0 (omega arith)
