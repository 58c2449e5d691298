use Rattle.layout_laws.proofs.BreakLemmas.Members.{followers_are_members}
use Rattle.layout_laws.proofs.breaks.member_laws.law_followers_are_members.Goals as goal

pub returns : goal.returns
returns c = followers_are_members
