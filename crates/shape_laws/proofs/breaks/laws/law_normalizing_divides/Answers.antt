use Rattle.shape_laws.proofs.BreakLemmas.Normalized.{normalizing_divides}
use Rattle.shape_laws.proofs.breaks.laws.law_normalizing_divides.Goals as goal

pub returns : goal.returns
returns c = normalizing_divides
