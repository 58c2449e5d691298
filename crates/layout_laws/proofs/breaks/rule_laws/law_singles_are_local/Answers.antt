use Rattle.layout_laws.proofs.BreakLemmas.Rules.{singles_are_local}
use Rattle.layout_laws.proofs.breaks.rule_laws.law_singles_are_local.Goals as goal

pub returns : goal.returns
returns c = singles_are_local
