use Rattle.shape_slices.proofs.Flags.{runs_have_one_flag_set}
use Rattle.shape_slices.proofs.laws.law_runs_have_one_flag_set.Goals as goal

pub returns : goal.returns
returns c = runs_have_one_flag_set
