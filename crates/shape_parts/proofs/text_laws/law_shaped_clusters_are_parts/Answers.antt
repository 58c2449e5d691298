use Rattle.shape_parts.proofs.Texts.{shaped_clusters_are_parts}
use Rattle.shape_parts.proofs.text_laws.law_shaped_clusters_are_parts.Goals as goal

pub returns : goal.returns
returns c = shaped_clusters_are_parts
