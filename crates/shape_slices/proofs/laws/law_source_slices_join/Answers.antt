use Rattle.shape_slices.proofs.Covered.{source_slices_join}
use Rattle.shape_slices.proofs.laws.law_source_slices_join.Goals as goal

pub returns : goal.returns
returns c = source_slices_join
