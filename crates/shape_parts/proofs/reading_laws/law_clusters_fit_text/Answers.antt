use Rattle.shape_parts.proofs.Parts.{clusters_fit_text}
use Rattle.shape_parts.proofs.reading_laws.law_clusters_fit_text.Goals as goal

pub returns : goal.returns
returns c = clusters_fit_text
