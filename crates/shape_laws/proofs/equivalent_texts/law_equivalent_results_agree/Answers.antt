use Rattle.shape_laws.proofs.Alike.{equivalent_results_agree}
use Rattle.shape_laws.proofs.equivalent_texts.law_equivalent_results_agree.Goals as goal

pub returns : goal.returns
returns c = equivalent_results_agree
