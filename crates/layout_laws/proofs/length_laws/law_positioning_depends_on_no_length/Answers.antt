use Rattle.layout_laws.proofs.Lemmas.Lengths.{positioning_depends_on_no_length}
use Rattle.layout_laws.proofs.length_laws.law_positioning_depends_on_no_length.Goals as goal

pub returns : goal.returns
returns c = positioning_depends_on_no_length
