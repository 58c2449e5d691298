use Rattle.layout_laws.proofs.BreakLemmas.Rules.{ligatures_are_local}
use Rattle.layout_laws.proofs.breaks.rule_laws.law_ligatures_are_local.Goals as goal

pub returns : goal.returns
returns c = ligatures_are_local
