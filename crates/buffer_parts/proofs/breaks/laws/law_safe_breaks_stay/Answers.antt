use Rattle.buffer_parts.proofs.BreakLemmas.Events.{safe_breaks_stay}
use Rattle.buffer_parts.proofs.breaks.laws.law_safe_breaks_stay.Goals as goal

pub returns : goal.returns
returns c = safe_breaks_stay
