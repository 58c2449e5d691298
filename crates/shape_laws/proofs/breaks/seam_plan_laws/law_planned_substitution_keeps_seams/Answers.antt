use Rattle.shape_laws.proofs.BreakLemmas.SeamPlans.{planned_substitution_keeps_seams}
use Rattle.shape_laws.proofs.breaks.seam_plan_laws.law_planned_substitution_keeps_seams.Goals as goal

pub returns : goal.returns
returns c = planned_substitution_keeps_seams
