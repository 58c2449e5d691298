use Rattle.shape_laws.proofs.BreakLemmas.SeamPlans.{planned_positioning_ends_plainly}
use Rattle.shape_laws.proofs.breaks.seam_plan_laws.law_planned_positioning_ends_plainly.Goals as goal

pub returns : goal.returns
returns c = planned_positioning_ends_plainly
