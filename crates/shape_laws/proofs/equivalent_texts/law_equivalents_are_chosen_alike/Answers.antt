use Rattle.shape_laws.proofs.Chosen.{equivalents_are_chosen_alike}
use Rattle.shape_laws.proofs.equivalent_texts.law_equivalents_are_chosen_alike.Goals as goal

pub returns : goal.returns
returns c = equivalents_are_chosen_alike
