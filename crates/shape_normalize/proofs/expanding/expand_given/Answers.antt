use Rattle.shape_normalize.proofs.Remembered.{nothing_known}
use Rattle.shape_normalize.proofs.expanding.expand_given.Goals as goal

pub expand_by_rows-requires-2-clause-known : goal.expand_by_rows-requires-2-clause-known
expand_by_rows-requires-2-clause-known g c = nothing_known (g.N.Normalizing.normalizer c.args.by.now) 64
