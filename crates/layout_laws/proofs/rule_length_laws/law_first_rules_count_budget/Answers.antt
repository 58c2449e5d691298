use Rattle.layout_laws.proofs.Lemmas.Counting.{first_rules_count_budget}
use Rattle.layout_laws.proofs.rule_length_laws.law_first_rules_count_budget.Goals as goal

pub returns : goal.returns
returns c = first_rules_count_budget
