use Rattle.layout_laws.proofs.BreakLemmas.Seams.{substitution_keeps_seams}
use Rattle.layout_laws.proofs.breaks.seam_laws.law_substitution_keeps_seams.Goals as goal

pub returns : goal.returns
returns c = substitution_keeps_seams
