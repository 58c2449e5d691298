use Rattle.layout_laws.proofs.Lemmas.Budgets.{substitution_counts_budget}
use Rattle.layout_laws.proofs.length_laws.law_substitution_counts_budget.Goals as goal

pub returns : goal.returns
returns c = substitution_counts_budget
