use Rattle.layout_laws.proofs.BreakLemmas.Positionings.{adjustments_are_local}
use Rattle.layout_laws.proofs.breaks.position_laws.law_adjustments_are_local.Goals as goal

pub returns : goal.returns
returns c = adjustments_are_local
