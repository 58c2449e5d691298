use Rattle.layout_laws.proofs.Lemmas.Lookups.{met_rules_keep_parts}
use Rattle.layout_laws.proofs.rule_part_laws.law_met_rules_keep_parts.Goals as goal

pub returns : goal.returns
returns c = met_rules_keep_parts
