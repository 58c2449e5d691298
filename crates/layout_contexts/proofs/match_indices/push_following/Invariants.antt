use Rattle.std.proofs.Common.{◌≡◌, ◌≤◌, ◌+◌, ◌-◌, ◌++◌, length, take}
use Rattle.layout_contexts.specs.Shifts.{following}
use Rattle.layout_contexts.proofs.match_indices.push_following.Given as goal

abbrev pub invariant-loop-k : goal.invariant-loop-k
invariant-loop-k l = (length l.indices.items ≤ 64) × (take 64 (l.indices.items ++ following (l.index + l.k) (l.count - l.k)) ≡ take 64 (l.initial.indices.items ++ following l.index l.count))
