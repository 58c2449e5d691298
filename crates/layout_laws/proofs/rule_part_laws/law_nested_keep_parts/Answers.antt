use Rattle.layout_laws.proofs.Lemmas.Nested.{nested_keep_parts}
use Rattle.layout_laws.proofs.rule_part_laws.law_nested_keep_parts.Goals as goal

pub returns : goal.returns
returns c = nested_keep_parts
