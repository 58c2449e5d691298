use Rattle.shape_parts.proofs.Masks.{fractions_stay}
use Rattle.shape_parts.proofs.character_laws.law_fractions_stay_in_line.Goals as goal

pub returns : goal.returns
returns c = fractions_stay
