use Rattle.buffer_parts.specs.Lemmas.Counting.{sparing_reads_the_same}
use Rattle.buffer_parts.proofs.length_laws.law_sparing_reads_the_same.Goals as goal

pub returns : goal.returns
returns c = sparing_reads_the_same
