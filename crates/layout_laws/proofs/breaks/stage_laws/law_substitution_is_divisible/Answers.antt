use Rattle.layout_laws.proofs.BreakLemmas.Stages.{substitution_is_divisible}
use Rattle.layout_laws.proofs.breaks.stage_laws.law_substitution_is_divisible.Goals as goal

pub returns : goal.returns
returns c = substitution_is_divisible
