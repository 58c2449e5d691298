use Rattle.layout_laws.proofs.BreakLemmas.Backward.{reverses_are_divisible}
use Rattle.layout_laws.proofs.breaks.backward_laws.law_reverses_are_divisible.Goals as goal

pub returns : goal.returns
returns c = reverses_are_divisible
