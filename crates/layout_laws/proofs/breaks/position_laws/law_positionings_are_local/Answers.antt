use Rattle.layout_laws.proofs.BreakLemmas.Positionings.{positionings_are_local}
use Rattle.layout_laws.proofs.breaks.position_laws.law_positionings_are_local.Goals as goal

pub returns : goal.returns
returns c = positionings_are_local
