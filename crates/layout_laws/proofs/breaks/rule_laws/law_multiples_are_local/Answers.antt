use Rattle.layout_laws.proofs.BreakLemmas.Rules.{multiples_are_local}
use Rattle.layout_laws.proofs.breaks.rule_laws.law_multiples_are_local.Goals as goal

pub returns : goal.returns
returns c = multiples_are_local
