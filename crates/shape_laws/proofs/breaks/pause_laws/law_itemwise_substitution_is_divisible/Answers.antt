use Rattle.shape_laws.proofs.BreakLemmas.Pauses.{itemwise_substitution_is_divisible}
use Rattle.shape_laws.proofs.breaks.pause_laws.law_itemwise_substitution_is_divisible.Goals as goal

pub returns : goal.returns
returns c = itemwise_substitution_is_divisible
