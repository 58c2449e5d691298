use Rattle.caret_model.proofs.OneSlice.{starts_are_in_one_slice}
use Rattle.caret_model.proofs.laws.law_starts_are_in_one_slice.Goals as goal

pub returns : goal.returns
returns c = starts_are_in_one_slice
