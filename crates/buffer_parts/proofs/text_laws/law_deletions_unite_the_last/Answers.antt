use Rattle.buffer_parts.specs.Lemmas.Deletions.{deletions_unite_the_last}
use Rattle.buffer_parts.proofs.text_laws.law_deletions_unite_the_last.Goals as goal

pub returns : goal.returns
returns c = deletions_unite_the_last
