use Rattle.buffer_glyphs.proofs.Least.{origins_keep_least}
use Rattle.buffer_glyphs.proofs.laws.law_origins_keep_least.Goals as goal

pub returns : goal.returns
returns c = origins_keep_least
