use Rattle.shape_laws.proofs.Alike.{runs_count_nested}
use Rattle.shape_laws.proofs.equivalent_texts.law_runs_count_nested.Goals as goal

pub returns : goal.returns
returns c = runs_count_nested
