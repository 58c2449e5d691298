use Rattle.layout_laws.proofs.BreakLemmas.PositionStages.{own_random_is_divisible}
use Rattle.layout_laws.proofs.breaks.positioning_laws.law_own_random_positions.Goals as goal

pub returns : goal.returns
returns c = own_random_is_divisible
