use Rattle.buffer_parts.specs.Lemmas.Groups.{single_groups_are_one}
use Rattle.buffer_parts.proofs.text_laws.law_single_groups_are_one.Goals as goal

pub returns : goal.returns
returns c = single_groups_are_one
