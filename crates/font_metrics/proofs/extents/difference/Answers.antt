use Rattle.std.proofs.Common.{arith}
use Rattle.std.proofs.lemmas.Int.{ints}
use Rattle.font_metrics.proofs.extents.difference.Goals as goal

pub returns-clause-value : goal.returns-clause-value
returns-clause-value c = omega (arith, ints)

pub returns-clause-low : goal.returns-clause-low
returns-clause-low c = omega (arith, ints)

pub returns-clause-high : goal.returns-clause-high
returns-clause-high c = omega (arith, ints)
