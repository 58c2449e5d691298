use Rattle.layout_laws.proofs.BreakLemmas.Stages.{own_random_is_divisible}
use Rattle.layout_laws.proofs.breaks.stage_laws.law_own_random_is_divisible.Goals as goal

pub returns : goal.returns
returns c = own_random_is_divisible
