use Rattle.layout_laws.proofs.BreakLemmas.PlacedPasses.{positionings_are_divisible}
use Rattle.layout_laws.proofs.breaks.position_laws.law_positionings_are_divisible.Goals as goal

pub returns : goal.returns
returns c = positionings_are_divisible
