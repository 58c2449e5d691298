use Rattle.shape_parts.proofs.Characters.{circle_stays}
use Rattle.shape_parts.proofs.character_laws.law_circle_stays_in_line.Goals as goal

pub returns : goal.returns
returns c = circle_stays
