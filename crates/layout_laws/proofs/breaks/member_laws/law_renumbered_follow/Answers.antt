use Rattle.layout_laws.proofs.BreakLemmas.Members.{renumbered_follow}
use Rattle.layout_laws.proofs.breaks.member_laws.law_renumbered_follow.Goals as goal

pub returns : goal.returns
returns c = renumbered_follow
