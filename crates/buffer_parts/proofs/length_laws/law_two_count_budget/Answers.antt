use Rattle.buffer_parts.specs.Lemmas.Counting.{two_count_budget}
use Rattle.buffer_parts.proofs.length_laws.law_two_count_budget.Goals as goal

pub returns : goal.returns
returns c = two_count_budget
