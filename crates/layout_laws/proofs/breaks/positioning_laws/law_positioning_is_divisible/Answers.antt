use Rattle.layout_laws.proofs.BreakLemmas.PositionStages.{positioning_is_divisible}
use Rattle.layout_laws.proofs.breaks.positioning_laws.law_positioning_is_divisible.Goals as goal

pub returns : goal.returns
returns c = positioning_is_divisible
