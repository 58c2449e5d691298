use Rattle.layout_laws.proofs.BreakLemmas.Rules.{first_rules_are_local}
use Rattle.layout_laws.proofs.breaks.rule_laws.law_first_rules_are_local.Goals as goal

pub returns : goal.returns
returns c = first_rules_are_local
