use Rattle.buffer_parts.proofs.BreakLemmas.Divided.{both_change_alone}
use Rattle.buffer_parts.proofs.breaks.side_laws.law_both_change_alone.Goals as goal

pub returns : goal.returns
returns c = both_change_alone
