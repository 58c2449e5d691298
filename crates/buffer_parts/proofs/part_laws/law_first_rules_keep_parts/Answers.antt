use Rattle.buffer_parts.proofs.Lemmas.Rules.{first_rules_keep_parts}
use Rattle.buffer_parts.proofs.part_laws.law_first_rules_keep_parts.Goals as goal

pub returns : goal.returns
returns c = first_rules_keep_parts
