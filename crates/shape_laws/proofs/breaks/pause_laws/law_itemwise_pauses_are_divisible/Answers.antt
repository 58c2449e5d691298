use Rattle.shape_laws.proofs.BreakLemmas.Pauses.{itemwise_pauses_are_divisible}
use Rattle.shape_laws.proofs.breaks.pause_laws.law_itemwise_pauses_are_divisible.Goals as goal

pub returns : goal.returns
returns c = itemwise_pauses_are_divisible
