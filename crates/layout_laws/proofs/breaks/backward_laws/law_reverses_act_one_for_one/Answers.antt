use Rattle.layout_laws.proofs.BreakLemmas.Reverses.{reverses_act_one_for_one}
use Rattle.layout_laws.proofs.breaks.backward_laws.law_reverses_act_one_for_one.Goals as goal

pub returns : goal.returns
returns c = reverses_act_one_for_one
