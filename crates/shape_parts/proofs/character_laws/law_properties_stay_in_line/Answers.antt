use Rattle.shape_parts.proofs.Characters.{properties_stay}
use Rattle.shape_parts.proofs.character_laws.law_properties_stay_in_line.Goals as goal

pub returns : goal.returns
returns c = properties_stay
