use Rattle.layout_laws.proofs.Lemmas.Budgets.{positioning_counts_budget}
use Rattle.layout_laws.proofs.length_laws.law_positioning_counts_budget.Goals as goal

pub returns : goal.returns
returns c = positioning_counts_budget
