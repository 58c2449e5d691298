use Rattle.layout_laws.proofs.BreakLemmas.Positionings.{joins_are_local}
use Rattle.layout_laws.proofs.breaks.position_laws.law_joins_are_local.Goals as goal

pub returns : goal.returns
returns c = joins_are_local
