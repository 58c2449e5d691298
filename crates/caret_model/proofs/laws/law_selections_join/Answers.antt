use Rattle.caret_model.proofs.Selecting.{selections_join}
use Rattle.caret_model.proofs.laws.law_selections_join.Goals as goal

pub returns : goal.returns
returns c = selections_join
