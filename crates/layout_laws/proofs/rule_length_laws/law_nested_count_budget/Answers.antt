use Rattle.layout_laws.proofs.Lemmas.NestedCounting.{nested_count_budget}
use Rattle.layout_laws.proofs.rule_length_laws.law_nested_count_budget.Goals as goal

pub returns : goal.returns
returns c = nested_count_budget
