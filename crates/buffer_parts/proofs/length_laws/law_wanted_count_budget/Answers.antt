use Rattle.buffer_parts.specs.Lemmas.Counting.{wanted_count_budget}
use Rattle.buffer_parts.proofs.length_laws.law_wanted_count_budget.Goals as goal

pub returns : goal.returns
returns c = wanted_count_budget
