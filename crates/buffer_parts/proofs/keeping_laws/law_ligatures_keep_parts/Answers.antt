use Rattle.buffer_parts.specs.Lemmas.Keeping.{ligatures_keep_parts}
use Rattle.buffer_parts.proofs.keeping_laws.law_ligatures_keep_parts.Goals as goal

pub returns : goal.returns
returns c = ligatures_keep_parts
