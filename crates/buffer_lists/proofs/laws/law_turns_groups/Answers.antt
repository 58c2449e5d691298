use Rattle.buffer_lists.specs.Lemmas.GroupsTurned.{turns_groups}
use Rattle.buffer_lists.proofs.laws.law_turns_groups.Goals as goal

pub returns : goal.returns
returns c = turns_groups
