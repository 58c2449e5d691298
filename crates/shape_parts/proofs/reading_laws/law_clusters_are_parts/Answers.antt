use Rattle.shape_parts.proofs.Parts.{clusters_are_parts}
use Rattle.shape_parts.proofs.reading_laws.law_clusters_are_parts.Goals as goal

pub returns : goal.returns
returns c = clusters_are_parts
