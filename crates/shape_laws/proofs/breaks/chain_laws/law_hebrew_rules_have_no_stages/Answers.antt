use Rattle.shape_laws.proofs.BreakLemmas.Scripts.{hebrew_rules_have_no_stages}
use Rattle.shape_laws.proofs.breaks.chain_laws.law_hebrew_rules_have_no_stages.Goals as goal

pub returns : goal.returns
returns c = hebrew_rules_have_no_stages
