use Rattle.std.proofs.Common.{arith, sym}
use Rattle.caret_model.proofs.TextOrder.{none_past}
use Rattle.caret_model.proofs.stops.text_slice.Goals as goal

pub returns-then-i-slices : goal.returns-then-i-slices
returns-then-i-slices c = sym (none_past c.args.backward c.args.slices.now c.args.i (omega arith))
