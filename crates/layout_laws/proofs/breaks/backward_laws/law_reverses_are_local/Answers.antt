use Rattle.layout_laws.proofs.BreakLemmas.Reverses.{reverses_are_local}
use Rattle.layout_laws.proofs.breaks.backward_laws.law_reverses_are_local.Goals as goal

pub returns : goal.returns
returns c = reverses_are_local
