use Rattle.buffer_parts.specs.Lemmas.Counts.{giving_is_giving}
use Rattle.buffer_parts.proofs.count_laws.law_giving_is_giving.Goals as goal

pub returns : goal.returns
returns c = giving_is_giving
