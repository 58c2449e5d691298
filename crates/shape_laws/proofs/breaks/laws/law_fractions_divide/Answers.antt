use Rattle.shape_laws.proofs.BreakLemmas.Fractions.{fractions_divide}
use Rattle.shape_laws.proofs.breaks.laws.law_fractions_divide.Goals as goal

pub returns : goal.returns
returns c = fractions_divide
