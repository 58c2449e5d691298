use Rattle.std.proofs.Common.{◌≡◌, ◌++◌, drop, map}
use Rattle.layout_map.proofs.stages.push_lookups.Given as goal

-- the lookups so far, and then those that are left
abbrev pub invariant-loop-index : goal.invariant-loop-index
invariant-loop-index l =
    l.uses.items ++ map (λ i. record l.like { index = i }) (drop l.index-index l.indices)
    ≡ l.initial.uses.items ++ map (λ i. record l.like { index = i }) l.indices
