use Rattle.layout_laws.proofs.BreakLemmas.Positionings.{pairs_are_local}
use Rattle.layout_laws.proofs.breaks.position_laws.law_pairs_are_local.Goals as goal

pub returns : goal.returns
returns c = pairs_are_local
