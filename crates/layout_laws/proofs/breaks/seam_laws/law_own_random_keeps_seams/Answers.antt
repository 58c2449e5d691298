use Rattle.layout_laws.proofs.BreakLemmas.Seams.{own_random_keeps_seams}
use Rattle.layout_laws.proofs.breaks.seam_laws.law_own_random_keeps_seams.Goals as goal

pub returns : goal.returns
returns c = own_random_keeps_seams
