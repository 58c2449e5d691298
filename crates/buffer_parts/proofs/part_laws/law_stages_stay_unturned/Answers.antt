use Rattle.buffer_parts.specs.Lemmas.Stages.{stages_stay_unturned}
use Rattle.buffer_parts.proofs.part_laws.law_stages_stay_unturned.Goals as goal

pub returns : goal.returns
returns c = stages_stay_unturned
