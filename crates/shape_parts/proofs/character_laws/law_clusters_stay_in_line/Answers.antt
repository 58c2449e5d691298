use Rattle.shape_parts.proofs.Characters.{clusters_stay}
use Rattle.shape_parts.proofs.character_laws.law_clusters_stay_in_line.Goals as goal

pub returns : goal.returns
returns c = clusters_stay
