use Rattle.std.proofs.Common.{◌≡◌, drop, map}
use Rattle.shape_slices.specs.Runs.{byte_range}
use Rattle.shape_trials.specs.Answers.{are_joined_from}
use Rattle.shape_trials.proofs.alone.are_joined.Given as goal

-- what is left decides
abbrev pub invariant-loop-slice : goal.invariant-loop-slice
invariant-loop-slice l = are_joined_from l.at l.end (map byte_range (drop l.slice-index l.slices)) ≡ are_joined_from 0 l.end (map byte_range l.slices)
