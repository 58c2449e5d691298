use Rattle.layout_laws.proofs.BreakLemmas.Rules.{alternates_are_local}
use Rattle.layout_laws.proofs.breaks.rule_laws.law_alternates_are_local.Goals as goal

pub returns : goal.returns
returns c = alternates_are_local
