use Rattle.shape_laws.proofs.BreakLemmas.PlannedPauses.{planned_substitution_is_divisible}
use Rattle.shape_laws.proofs.breaks.pause_laws.law_planned_substitution_is_divisible.Goals as goal

pub returns : goal.returns
returns c = planned_substitution_is_divisible
