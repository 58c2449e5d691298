use Rattle.buffer_parts.specs.Lemmas.Least.{orderly_keep_least}
use Rattle.buffer_parts.proofs.laws.law_orderly_events_keep_least.Goals as goal

pub returns : goal.returns
returns c = orderly_keep_least
