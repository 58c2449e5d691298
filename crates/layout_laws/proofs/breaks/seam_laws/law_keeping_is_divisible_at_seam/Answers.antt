use Rattle.layout_laws.proofs.BreakLemmas.Seams.{keeping_is_divisible_at_seam}
use Rattle.layout_laws.proofs.breaks.seam_laws.law_keeping_is_divisible_at_seam.Goals as goal

pub returns : goal.returns
returns c = keeping_is_divisible_at_seam
