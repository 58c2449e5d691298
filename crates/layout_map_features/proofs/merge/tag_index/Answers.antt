use Rattle.std.proofs.Common.{rules, ltb}
use Rattle.std.proofs.lemmas.List.Sorted.{IsPartitionedBy-ltb, IsPartitionPoint-from_clause}
use Rattle.layout_map_features.specs.declared.request.MergedRequest.{MergedRequest}
use Rattle.layout_map_features.proofs.Inserting.{never_falls, parted_at}
use Rattle.layout_map_features.proofs.merge.tag_index.Goals as goal

-- the closure compares the tag of a request
pub returns : goal.returns
returns c =
    let ms = c.args.merged.now in
    let parted = IsPartitionedBy-ltb (λ (m : MergedRequest). m.tag.0) ms c.args.tag (never_falls (λ (m : MergedRequest). m.tag.0) 0 ms c.requires) in
    let point = IsPartitionPoint-from_clause (λ (m : MergedRequest). ltb m.tag.0 c.args.tag) ms c.partition_point.result c.partition_point.ensures.partitioned parted (λ a r f called. search rules) in
    parted_at (λ (m : MergedRequest). m.tag.0) ms c.args.tag c.partition_point.result c.partition_point.ensures.bound point
