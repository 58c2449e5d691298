use Rattle.buffer_parts.proofs.BreakLemmas.Divided.{first_changes_alone}
use Rattle.buffer_parts.proofs.breaks.side_laws.law_first_changes_alone.Goals as goal

pub returns : goal.returns
returns c = first_changes_alone
