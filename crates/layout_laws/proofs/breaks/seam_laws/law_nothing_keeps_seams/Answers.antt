use Rattle.layout_laws.proofs.BreakLemmas.Seams.{nothing_at_seam}
use Rattle.layout_laws.proofs.breaks.seam_laws.law_nothing_keeps_seams.Goals as goal

pub returns : goal.returns
returns c = nothing_at_seam
