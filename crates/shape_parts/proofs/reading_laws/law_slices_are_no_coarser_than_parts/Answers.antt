use Rattle.shape_parts.proofs.Parts.{slices_are_no_coarser_than_parts}
use Rattle.shape_parts.proofs.reading_laws.law_slices_are_no_coarser_than_parts.Goals as goal

pub returns : goal.returns
returns c = slices_are_no_coarser_than_parts
