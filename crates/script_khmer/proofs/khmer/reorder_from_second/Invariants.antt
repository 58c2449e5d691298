use Rattle.std.proofs.Common.{◌<◌, ◌-◌}
use Rattle.script_khmer.specs.Runs.{IsWalked}
use Rattle.script_khmer.proofs.khmer.reorder_from_second.Given as goal

-- the indices before this one were walked
abbrev pub invariant-loop-walk : goal.invariant-loop-walk
invariant-loop-walk l = IsWalked l.masks l.start l.end 1 0 l.walk.index l.walk.count l.initial.buffer l.buffer × (0 < l.walk.index)

abbrev pub decreases-loop-walk : goal.decreases-loop-walk
decreases-loop-walk l = l.end - l.start - l.walk.index
