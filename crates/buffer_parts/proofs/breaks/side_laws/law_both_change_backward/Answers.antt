use Rattle.buffer_parts.proofs.BreakLemmas.Divided.{both_change_backward}
use Rattle.buffer_parts.proofs.breaks.side_laws.law_both_change_backward.Goals as goal

pub returns : goal.returns
returns c = both_change_backward
