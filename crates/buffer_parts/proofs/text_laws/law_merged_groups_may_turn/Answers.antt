use Rattle.buffer_parts.specs.Lemmas.Groups.{merged_groups_may_turn}
use Rattle.buffer_parts.proofs.text_laws.law_merged_groups_may_turn.Goals as goal

pub returns : goal.returns
returns c = merged_groups_may_turn
