use Rattle.layout_laws.proofs.Lemmas.Unnested.{nothing_nests_without_budget}
use Rattle.layout_laws.proofs.length_laws.law_nothing_nests_without_budget.Goals as goal

pub returns : goal.returns
returns c = nothing_nests_without_budget
