use Rattle.buffer_parts.proofs.Lemmas.Both.{used_alike_are_read}
use Rattle.buffer_parts.proofs.length_laws.law_used_alike_are_read.Goals as goal

pub returns : goal.returns
returns c = used_alike_are_read
