use Rattle.layout_laws.proofs.BreakLemmas.Rules.{met_rules_are_local}
use Rattle.layout_laws.proofs.breaks.rule_laws.law_met_rules_are_local.Goals as goal

pub returns : goal.returns
returns c = met_rules_are_local
