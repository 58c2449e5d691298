use Rattle.layout_laws.proofs.Lemmas.Unturned.{positioning_stays_unturned}
use Rattle.layout_laws.proofs.part_laws.law_positioning_stays_unturned.Goals as goal

pub returns : goal.returns
returns c = positioning_stays_unturned
