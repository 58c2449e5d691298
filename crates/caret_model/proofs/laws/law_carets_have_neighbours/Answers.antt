use Rattle.caret_model.proofs.Neighbours.{carets_have_neighbours}
use Rattle.caret_model.proofs.laws.law_carets_have_neighbours.Goals as goal

pub returns : goal.returns
returns c = carets_have_neighbours
