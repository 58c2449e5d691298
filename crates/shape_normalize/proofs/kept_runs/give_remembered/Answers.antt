use Rattle.shape_normalize.proofs.KnownGlyphs.{first_glyphs}
use Rattle.shape_normalize.proofs.kept_runs.give_remembered.Goals as goal

pub give_each-requires : goal.give_each-requires
give_each-requires g c = first_glyphs (g.N.Normalizing.normalizer c.args.by.now) 128
