use Rattle.std.proofs.Common.{◌≡◌, ◌≤◌, ◌+◌, ◌-◌, ◌++◌, length, take, drop, map}
use Rattle.layout_contexts.proofs.match_indices.push_moved.Given as goal

abbrev pub invariant-loop-index : goal.invariant-loop-index
invariant-loop-index l = (length l.indices.items ≤ 64) × (take 64 (l.indices.items ++ map (λ q. q + l.after - l.before) (drop l.index-index l.later)) ≡ take 64 (l.initial.indices.items ++ map (λ q. q + l.after - l.before) l.later))
