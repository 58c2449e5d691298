use Rattle.shape_parts.proofs.Texts.{shaped_slices_are_no_coarser}
use Rattle.shape_parts.proofs.text_laws.law_shaped_slices_are_no_coarser.Goals as goal

pub returns : goal.returns
returns c = shaped_slices_are_no_coarser
