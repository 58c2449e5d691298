use Rattle.buffer_parts.proofs.BreakLemmas.Beside.{beside_stays_divided}
use Rattle.buffer_parts.proofs.breaks.fragment_laws.law_beside_stays_divided.Goals as goal

pub returns : goal.returns
returns c = beside_stays_divided
