use Rattle.shape_parts.proofs.Masks.{ranges_stay}
use Rattle.shape_parts.proofs.character_laws.law_ranges_stay_in_line.Goals as goal

pub returns : goal.returns
returns c = ranges_stay
