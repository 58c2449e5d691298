use Rattle.buffer_parts.specs.Lemmas.Slices.{slices_are_no_coarser}
use Rattle.buffer_parts.proofs.laws.law_slices_are_no_coarser.Goals as goal

pub returns : goal.returns
returns c = slices_are_no_coarser
