use Rattle.shape_laws.proofs.BreakLemmas.SeamPlans.{itemwise_pauses_keep_seams}
use Rattle.shape_laws.proofs.breaks.seam_plan_laws.law_itemwise_pauses_keep_seams.Goals as goal

pub returns : goal.returns
returns c = itemwise_pauses_keep_seams
