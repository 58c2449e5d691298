use Rattle.buffer_parts.proofs.BreakLemmas.Divided.{second_changes_alone}
use Rattle.buffer_parts.proofs.breaks.side_laws.law_second_changes_alone.Goals as goal

pub returns : goal.returns
returns c = second_changes_alone
