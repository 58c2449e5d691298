use Rattle.shape_laws.proofs.BreakLemmas.SafeTexts.{safe_breaks_of_plans}
use Rattle.shape_laws.proofs.breaks.break_laws.law_planned_safe_breaks.Goals as goal

pub returns : goal.returns
returns c = safe_breaks_of_plans
