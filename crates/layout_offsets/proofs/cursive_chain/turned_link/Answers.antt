use Rattle.std.proofs.Common.{rules}
use Rattle.std.proofs.lemmas.Int.{wraps}
use Rattle.layout_offsets.proofs.cursive_chain.turned_link.Goals as goal

pub returns : goal.returns
returns c = search (rules, wraps)
