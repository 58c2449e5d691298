use Rattle.buffer_parts.specs.Lemmas.Stages.{stages_keep_parts}
use Rattle.buffer_parts.proofs.part_laws.law_stages_keep_parts.Goals as goal

pub returns : goal.returns
returns c = stages_keep_parts
