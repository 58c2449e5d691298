use Rattle.buffer_parts.specs.Lemmas.Counting.{chains_count_budget}
use Rattle.buffer_parts.proofs.length_laws.law_chains_count_budget.Goals as goal

pub returns : goal.returns
returns c = chains_count_budget
