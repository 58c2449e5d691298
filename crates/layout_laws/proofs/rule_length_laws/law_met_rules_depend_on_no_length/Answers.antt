use Rattle.layout_laws.proofs.Lemmas.Alike.{met_rules_depend_on_no_length}
use Rattle.layout_laws.proofs.rule_length_laws.law_met_rules_depend_on_no_length.Goals as goal

pub returns : goal.returns
returns c = met_rules_depend_on_no_length
