use Rattle.shape_laws.proofs.BreakLemmas.SafeTexts.{planned_texts_have_safe_breaks}
use Rattle.shape_laws.proofs.breaks.break_laws.law_planned_texts_have_safe_breaks.Goals as goal

pub returns : goal.returns
returns c = planned_texts_have_safe_breaks
