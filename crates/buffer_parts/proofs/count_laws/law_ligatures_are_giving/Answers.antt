use Rattle.buffer_parts.specs.Lemmas.Ligatures.{ligatures_are_giving}
use Rattle.buffer_parts.proofs.count_laws.law_ligatures_are_giving.Goals as goal

pub returns : goal.returns
returns c = ligatures_are_giving
