use Rattle.shape_parts.proofs.Masks.{first_mask_stays}
use Rattle.shape_parts.proofs.character_laws.law_first_mask_stays_in_line.Goals as goal

pub returns : goal.returns
returns c = first_mask_stays
