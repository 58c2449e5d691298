use Rattle.layout_laws.proofs.Lemmas.NestedAlike.{nested_depend_on_no_length}
use Rattle.layout_laws.proofs.rule_length_laws.law_nested_depend_on_no_length.Goals as goal

pub returns : goal.returns
returns c = nested_depend_on_no_length
