use Rattle.shape_parts.proofs.Texts.{guessing_keeps_clusters}
use Rattle.shape_parts.proofs.text_laws.law_guessing_keeps_clusters.Goals as goal

pub returns : goal.returns
returns c = guessing_keeps_clusters
