use Rattle.layout_laws.proofs.Lemmas.Alike.{first_rules_depend_on_no_length}
use Rattle.layout_laws.proofs.rule_length_laws.law_first_rules_depend_on_no_length.Goals as goal

pub returns : goal.returns
returns c = first_rules_depend_on_no_length
