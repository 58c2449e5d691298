use Rattle.buffer_parts.specs.Lemmas.Counts.{counts_follow}
use Rattle.buffer_parts.proofs.count_laws.law_counts_follow.Goals as goal

pub returns : goal.returns
returns c = counts_follow
