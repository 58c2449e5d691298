use Rattle.buffer_parts.specs.Lemmas.Keeping.{replacements_keep_parts}
use Rattle.buffer_parts.proofs.keeping_laws.law_replacements_keep_parts.Goals as goal

pub returns : goal.returns
returns c = replacements_keep_parts
