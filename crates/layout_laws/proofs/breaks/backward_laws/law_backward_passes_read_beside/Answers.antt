use Rattle.layout_laws.proofs.BreakLemmas.Backward.{backward_passes_read_beside}
use Rattle.layout_laws.proofs.breaks.backward_laws.law_backward_passes_read_beside.Goals as goal

pub returns : goal.returns
returns c = backward_passes_read_beside
