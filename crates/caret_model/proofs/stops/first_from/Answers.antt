use Rattle.std.proofs.Common.{ℕ, ltb, rules}
use Rattle.std.proofs.lemmas.List.Sorted.{IsPartitionPoint-from_clause, IsPartitionedBy-ltb}
use Rattle.caret_model.proofs.Between.{parted_at}
use Rattle.caret_model.proofs.stops.first_from.Goals as goal

-- the closure compares a stop
pub returns : goal.returns
returns c =
    let ss = c.args.stops.now in
    let parted = IsPartitionedBy-ltb (λ (s : ℕ). s) ss c.args.byte c.requires in
    let point = IsPartitionPoint-from_clause (λ (s : ℕ). ltb s c.args.byte) ss c.partition_point.result c.partition_point.ensures.partitioned parted (λ a r f called. search rules) in
    parted_at ss c.args.byte c.partition_point.result c.partition_point.ensures.bound point
