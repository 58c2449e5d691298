use Rattle.shape_laws.proofs.Chosen.{chosen_texts_are_equivalent}
use Rattle.shape_laws.proofs.equivalent_texts.law_chosen_texts_are_equivalent.Goals as goal

pub returns : goal.returns
returns c = chosen_texts_are_equivalent
