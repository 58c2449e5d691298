use Rattle.shape_parts.proofs.Normalized.{normalizing_stays}
use Rattle.shape_parts.proofs.character_laws.law_normalizing_stays_in_line.Goals as goal

pub returns : goal.returns
returns c = normalizing_stays
