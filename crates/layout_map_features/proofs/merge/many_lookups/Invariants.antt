use Rattle.std.proofs.Common.{◌≡◌, take}
use Rattle.layout_map_features.specs.Groups.{entries_below}
use Rattle.layout_map_features.specs.Lookups.{joined_lookups}
use Rattle.layout_map_features.proofs.merge.many_lookups.Given as goal

-- the lookups so far are entered
abbrev pub invariant-loop-lookup : goal.invariant-loop-lookup
invariant-loop-lookup l =
    l.by_index.entries ≡ entries_below (λ r. r.index) joined_lookups l.count (take l.lookup-index l.uses)
