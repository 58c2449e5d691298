use Rattle.layout_laws.proofs.BreakLemmas.PositionEnds.{following_is_divisible}
use Rattle.layout_laws.proofs.breaks.positioning_laws.law_following_is_divisible.Goals as goal

pub returns : goal.returns
returns c = following_is_divisible
