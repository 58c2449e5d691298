use Rattle.caret_model.proofs.OneSlice.{bytes_are_in_one_slice}
use Rattle.caret_model.proofs.laws.law_bytes_are_in_one_slice.Goals as goal

pub returns : goal.returns
returns c = bytes_are_in_one_slice
