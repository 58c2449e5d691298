use Rattle.buffer_parts.proofs.Lemmas.Both.{sparing_alike_are_read}
use Rattle.buffer_parts.proofs.length_laws.law_sparing_alike_are_read.Goals as goal

pub returns : goal.returns
returns c = sparing_alike_are_read
