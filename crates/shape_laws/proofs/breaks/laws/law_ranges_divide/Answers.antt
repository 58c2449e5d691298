use Rattle.shape_laws.proofs.BreakLemmas.Stages.{ranges_of_both_divide}
use Rattle.shape_laws.proofs.breaks.laws.law_ranges_divide.Goals as goal

pub returns : goal.returns
returns c = ranges_of_both_divide
