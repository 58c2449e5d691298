use Rattle.layout_laws.proofs.BreakLemmas.Lookups.{lookups_are_local}
use Rattle.layout_laws.proofs.breaks.rule_laws.law_lookups_are_local.Goals as goal

pub returns : goal.returns
returns c = lookups_are_local
