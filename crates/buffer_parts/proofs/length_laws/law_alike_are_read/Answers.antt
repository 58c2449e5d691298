use Rattle.buffer_parts.specs.Lemmas.Alike.{alike_are_read}
use Rattle.buffer_parts.proofs.length_laws.law_alike_are_read.Goals as goal

pub returns : goal.returns
returns c = alike_are_read
