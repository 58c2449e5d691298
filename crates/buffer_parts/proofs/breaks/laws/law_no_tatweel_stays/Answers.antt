use Rattle.buffer_parts.proofs.BreakLemmas.Clear.{no_tatweel_stays}
use Rattle.buffer_parts.proofs.breaks.laws.law_no_tatweel_stays.Goals as goal

pub returns : goal.returns
returns c = no_tatweel_stays
