use Rattle.layout_laws.proofs.Lemmas.Counting.{met_rules_count_budget}
use Rattle.layout_laws.proofs.rule_length_laws.law_met_rules_count_budget.Goals as goal

pub returns : goal.returns
returns c = met_rules_count_budget
