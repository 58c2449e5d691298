use Rattle.std.proofs.Common.{arith}
use Rattle.std.proofs.lemmas.Int.{ints}
use Rattle.font_metrics.proofs.boxes.moved_side.Goals as goal

pub returns : goal.returns
returns c = omega (arith, ints)
