use Rattle.buffer_lists.specs.Lemmas.GroupsTurned.{flat_groups}
use Rattle.buffer_lists.proofs.laws.law_groups_are_all.Goals as goal

pub returns : goal.returns
returns c = flat_groups
