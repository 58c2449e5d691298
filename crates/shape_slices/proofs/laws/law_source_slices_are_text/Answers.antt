use Rattle.shape_slices.proofs.Covered.{source_slices_are_text}
use Rattle.shape_slices.proofs.laws.law_source_slices_are_text.Goals as goal

pub returns : goal.returns
returns c = source_slices_are_text
