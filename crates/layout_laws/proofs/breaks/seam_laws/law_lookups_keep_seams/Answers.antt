use Rattle.layout_laws.proofs.BreakLemmas.Seams.{lookups_keep_seams}
use Rattle.layout_laws.proofs.breaks.seam_laws.law_lookups_keep_seams.Goals as goal

pub returns : goal.returns
returns c = lookups_keep_seams
