use Rattle.shape_parts.proofs.Lines.{clusters_stand_in_line}
use Rattle.shape_parts.proofs.reading_laws.law_clusters_stand_in_line.Goals as goal

pub returns : goal.returns
returns c = clusters_stand_in_line
