use Rattle.layout_laws.proofs.Lemmas.Counting.{lookups_count_budget}
use Rattle.layout_laws.proofs.rule_length_laws.law_lookups_count_budget.Goals as goal

pub returns : goal.returns
returns c = lookups_count_budget
