use Rattle.buffer_parts.specs.Lemmas.Groups.{one_groups_may_turn}
use Rattle.buffer_parts.proofs.text_laws.law_one_groups_may_turn.Goals as goal

pub returns : goal.returns
returns c = one_groups_may_turn
