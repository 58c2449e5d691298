use Rattle.buffer_glyphs.proofs.Least.{keeps_least}
use Rattle.buffer_glyphs.proofs.laws.law_keeps_least.Goals as goal

pub returns : goal.returns
returns c = keeps_least
