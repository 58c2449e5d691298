use Rattle.shape_normalize.proofs.KnownGlyphs.{first_glyphs}
use Rattle.shape_normalize.proofs.Remembered.{nothing_known}
use Rattle.shape_normalize.proofs.fronts.take_remembered.Goals as goal

pub take_each-requires-clause-rows : goal.take_each-requires-clause-rows
take_each-requires-clause-rows g c = first_glyphs (g.N.Normalizing.normalizer c.args.by.now) 128

pub take_each-requires-clause-known : goal.take_each-requires-clause-known
take_each-requires-clause-known g c = nothing_known (g.N.Normalizing.normalizer c.args.by.now) 64
