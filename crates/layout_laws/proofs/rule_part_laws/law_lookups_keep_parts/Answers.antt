use Rattle.layout_laws.proofs.Lemmas.Lookups.{lookups_keep_parts}
use Rattle.layout_laws.proofs.rule_part_laws.law_lookups_keep_parts.Goals as goal

pub returns : goal.returns
returns c = lookups_keep_parts
