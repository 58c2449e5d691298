use Rattle.layout_laws.proofs.BreakLemmas.Steady.{lookups_are_steady}
use Rattle.layout_laws.proofs.breaks.rule_laws.law_lookups_are_steady.Goals as goal

pub returns : goal.returns
returns c = lookups_are_steady
