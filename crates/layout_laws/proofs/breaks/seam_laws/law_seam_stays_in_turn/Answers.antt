use Rattle.layout_laws.proofs.BreakLemmas.Seams.{seam_stays_in_turn}
use Rattle.layout_laws.proofs.breaks.seam_laws.law_seam_stays_in_turn.Goals as goal

pub returns : goal.returns
returns c = seam_stays_in_turn
