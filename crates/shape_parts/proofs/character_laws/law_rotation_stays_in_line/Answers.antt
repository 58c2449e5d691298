use Rattle.shape_parts.proofs.Characters.{rotation_stays}
use Rattle.shape_parts.proofs.character_laws.law_rotation_stays_in_line.Goals as goal

pub returns : goal.returns
returns c = rotation_stays
