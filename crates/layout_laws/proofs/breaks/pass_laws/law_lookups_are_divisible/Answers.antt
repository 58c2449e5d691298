use Rattle.layout_laws.proofs.BreakLemmas.Spent.{lookups_are_divisible}
use Rattle.layout_laws.proofs.breaks.pass_laws.law_lookups_are_divisible.Goals as goal

pub returns : goal.returns
returns c = lookups_are_divisible
