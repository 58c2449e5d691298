use Rattle.std.proofs.Common.{rules}
use Rattle.std.proofs.lemmas.Int.{wraps}
use Rattle.layout_offsets.proofs.sums.plus.Goals as goal

pub returns : goal.returns
returns c = search (rules, wraps)
