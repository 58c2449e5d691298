use Rattle.shape_laws.proofs.BreakLemmas.Stages.{letters_of_both_divide}
use Rattle.shape_laws.proofs.breaks.laws.law_letters_divide.Goals as goal

pub returns : goal.returns
returns c = letters_of_both_divide
