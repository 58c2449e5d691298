use Rattle.std.proofs.Common.{◌≡◌, take}
use Rattle.layout_map_features.specs.Groups.{entries_below}
use Rattle.layout_map_features.specs.Entering.{entries_of}
use Rattle.layout_map_features.specs.Lookups.{joined_lookups}
use Rattle.layout_map_features.proofs.merge.few_lookups.Given as goal

-- the lookups so far are entered
abbrev pub invariant-loop-lookup : goal.invariant-loop-lookup
invariant-loop-lookup l =
    entries_of (λ k. k.index) l.merged.items ≡ entries_below (λ r. r.index) joined_lookups l.count (take l.lookup-index l.uses)
