use Rattle.buffer_parts.specs.Lemmas.CharacterParts.{slices_are_parts}
use Rattle.buffer_parts.proofs.laws.law_slices_are_parts.Goals as goal

pub returns : goal.returns
returns c = slices_are_parts
