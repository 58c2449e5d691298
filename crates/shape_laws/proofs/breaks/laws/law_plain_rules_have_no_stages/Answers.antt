use Rattle.shape_laws.proofs.BreakLemmas.Plain.{plain_rules_have_no_stages}
use Rattle.shape_laws.proofs.breaks.laws.law_plain_rules_have_no_stages.Goals as goal

pub returns : goal.returns
returns c = plain_rules_have_no_stages
