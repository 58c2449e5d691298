use Rattle.buffer_parts.specs.Lemmas.Counting.{counting_has_uses}
use Rattle.buffer_parts.proofs.length_laws.law_counting_has_uses.Goals as goal

pub returns : goal.returns
returns c = counting_has_uses
