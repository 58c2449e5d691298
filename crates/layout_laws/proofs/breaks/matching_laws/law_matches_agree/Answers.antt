use Rattle.layout_laws.proofs.BreakLemmas.Matching.{matches_agree}
use Rattle.layout_laws.proofs.breaks.matching_laws.law_matches_agree.Goals as goal

pub returns : goal.returns
returns c = matches_agree
