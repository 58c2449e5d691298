use Rattle.layout_laws.proofs.BreakLemmas.PositionStages.{unpaused_positioning_is_divisible}
use Rattle.layout_laws.proofs.breaks.positioning_laws.law_unpaused_positioning_is_divisible.Goals as goal

pub returns : goal.returns
returns c = unpaused_positioning_is_divisible
