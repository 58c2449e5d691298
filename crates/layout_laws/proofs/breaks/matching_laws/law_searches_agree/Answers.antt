use Rattle.layout_laws.proofs.BreakLemmas.Matching.{searches_agree}
use Rattle.layout_laws.proofs.breaks.matching_laws.law_searches_agree.Goals as goal

pub returns : goal.returns
returns c = searches_agree
