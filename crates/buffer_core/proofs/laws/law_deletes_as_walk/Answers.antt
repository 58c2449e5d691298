use Rattle.buffer_core.proofs.Walked.{deletes_as_walk}
use Rattle.buffer_core.proofs.laws.law_deletes_as_walk.Goals as goal

pub returns : goal.returns
returns c = deletes_as_walk
