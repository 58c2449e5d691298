use Rattle.layout_laws.proofs.BreakLemmas.Divided.{passes_read_beside}
use Rattle.layout_laws.proofs.breaks.pass_laws.law_passes_read_beside.Goals as goal

pub returns : goal.returns
returns c = passes_read_beside
