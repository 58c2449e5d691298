use Rattle.layout_laws.proofs.Lemmas.Unturned.{substitution_stays_unturned}
use Rattle.layout_laws.proofs.part_laws.law_substitution_stays_unturned.Goals as goal

pub returns : goal.returns
returns c = substitution_stays_unturned
