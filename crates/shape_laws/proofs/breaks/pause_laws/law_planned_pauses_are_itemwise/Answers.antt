use Rattle.shape_laws.proofs.BreakLemmas.PlannedPauses.{planned_pauses_are_itemwise}
use Rattle.shape_laws.proofs.breaks.pause_laws.law_planned_pauses_are_itemwise.Goals as goal

pub returns : goal.returns
returns c = planned_pauses_are_itemwise
