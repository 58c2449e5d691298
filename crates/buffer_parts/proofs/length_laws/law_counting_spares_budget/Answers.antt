use Rattle.buffer_parts.specs.Lemmas.Counting.{counting_spares_budget}
use Rattle.buffer_parts.proofs.length_laws.law_counting_spares_budget.Goals as goal

pub returns : goal.returns
returns c = counting_spares_budget
