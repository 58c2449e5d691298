use Rattle.layout_laws.proofs.Lemmas.Alike.{lookups_depend_on_no_length}
use Rattle.layout_laws.proofs.rule_length_laws.law_lookups_depend_on_no_length.Goals as goal

pub returns : goal.returns
returns c = lookups_depend_on_no_length
