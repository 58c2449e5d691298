use Rattle.buffer_parts.specs.Lemmas.PlainStages.{plain_stages_keep_parts}
use Rattle.buffer_parts.proofs.part_laws.law_plain_stages_keep_parts.Goals as goal

pub returns : goal.returns
returns c = plain_stages_keep_parts
