use Rattle.layout_laws.proofs.Lemmas.Kept.{substitution_keeps_parts}
use Rattle.layout_laws.proofs.part_laws.law_substitution_keeps_parts.Goals as goal

pub returns : goal.returns
returns c = substitution_keeps_parts
