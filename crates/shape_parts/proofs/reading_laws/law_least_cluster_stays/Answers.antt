use Rattle.shape_parts.proofs.Parts.{least_cluster_stays}
use Rattle.shape_parts.proofs.reading_laws.law_least_cluster_stays.Goals as goal

pub returns : goal.returns
returns c = least_cluster_stays
