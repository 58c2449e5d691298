use Rattle.buffer_parts.specs.Lemmas.Keeping.{plain_is_kept}
use Rattle.buffer_parts.proofs.keeping_laws.law_plain_is_kept.Goals as goal

pub returns : goal.returns
returns c = plain_is_kept
