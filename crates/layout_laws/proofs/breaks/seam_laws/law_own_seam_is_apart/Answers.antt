use Rattle.layout_laws.proofs.BreakLemmas.Seams.{own_seam_is_apart}
use Rattle.layout_laws.proofs.breaks.seam_laws.law_own_seam_is_apart.Goals as goal

pub returns : goal.returns
returns c = own_seam_is_apart
