use Rattle.layout_laws.proofs.BreakLemmas.Seams.{unnumbered_is_own}
use Rattle.layout_laws.proofs.breaks.seam_laws.law_unnumbered_is_own.Goals as goal

pub returns : goal.returns
returns c = unnumbered_is_own
