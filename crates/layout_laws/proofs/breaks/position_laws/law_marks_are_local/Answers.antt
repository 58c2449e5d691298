use Rattle.layout_laws.proofs.BreakLemmas.Positionings.{marks_are_local}
use Rattle.layout_laws.proofs.breaks.position_laws.law_marks_are_local.Goals as goal

pub returns : goal.returns
returns c = marks_are_local
