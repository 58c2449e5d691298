use Rattle.shape_laws.proofs.Alike.{greater_budgets_read_the_same}
use Rattle.shape_laws.proofs.equivalent_texts.law_greater_budgets_read_the_same.Goals as goal

pub returns : goal.returns
returns c = greater_budgets_read_the_same
