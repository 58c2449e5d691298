use Rattle.shape_laws.proofs.BreakLemmas.Pauses.{compiled_pauses_are_itemwise}
use Rattle.shape_laws.proofs.breaks.pause_laws.law_compiled_pauses_are_itemwise.Goals as goal

pub returns : goal.returns
returns c = compiled_pauses_are_itemwise
