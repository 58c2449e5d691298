use Rattle.std.proofs.lemmas.Bool.Decides.{Decides-at}
use Rattle.shaping_buffer.proofs.Equality.{extents}
use Rattle.shaping_buffer.proofs.laws.law_extents_are_equal.Goals as goal

pub returns : goal.returns
returns c = Decides-at c.eq.result _ c.eq.ensures (extents c.args.left.now c.args.right.now)
