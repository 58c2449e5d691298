use Rattle.layout_laws.proofs.Lemmas.Kept.{positioning_keeps_parts}
use Rattle.layout_laws.proofs.part_laws.law_positioning_keeps_parts.Goals as goal

pub returns : goal.returns
returns c = positioning_keeps_parts
