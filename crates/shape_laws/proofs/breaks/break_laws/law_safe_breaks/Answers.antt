use Rattle.shape_laws.proofs.BreakLemmas.SafeTexts.{safe_breaks}
use Rattle.shape_laws.proofs.breaks.break_laws.law_safe_breaks.Goals as goal

pub returns : goal.returns
returns c = safe_breaks
