use Rattle.layout_laws.proofs.Lemmas.Nesting.{nests_within_budget}
use Rattle.layout_laws.proofs.length_laws.law_nests_within_budget.Goals as goal

pub returns : goal.returns
returns c = nests_within_budget
