use Rattle.std.proofs.Common.{◌≡◌, ◌-◌, length, slice_get, Some, sym, ap, ◌∙◌, rules, ltb}
use Rattle.std.specs.Option.{option_copied}
use Rattle.std.proofs.lemmas.List.Sorted.{IsPartitionedBy-ltb, IsPartitionPoint-from_clause}
use Rattle.layout_map_features.specs.declared.lookup.lookup_map_t.{lookup_map_t}
use Rattle.layout_map_features.proofs.Inserting.{never_falls, parted_at, last_below}
use Rattle.layout_map_features.proofs.merge.lookup_index.Goals as goal

-- the closure compares the index of a lookup
pub returns-in-Some : goal.returns-in-Some
returns-in-Some c =
    let ls = c.args.merged.now in
    let parted = IsPartitionedBy-ltb (λ (l : lookup_map_t). l.index) ls c.args.index (never_falls (λ (l : lookup_map_t). l.index) 0 ls c.requires) in
    let point = IsPartitionPoint-from_clause (λ (l : lookup_map_t). ltb l.index c.args.index) ls c.partition_point.result c.partition_point.ensures.partitioned parted (λ a r f called. search rules) in
    parted_at (λ (l : lookup_map_t). l.index) ls c.args.index c.partition_point.result c.partition_point.ensures.bound point

pub returns-in_default : goal.returns-in_default
returns-in_default c =
    let at : slice_get c.args.merged.now (length c.args.merged.now - 1) ≡ Some c.in-Some.last.now = sym c.last.ensures.value ∙ ap option_copied c.in-Some.is in
    last_below (λ (l : lookup_map_t). l.index) c.args.merged.now c.in-Some.last.now c.args.index c.requires at c.if-last-index.false
