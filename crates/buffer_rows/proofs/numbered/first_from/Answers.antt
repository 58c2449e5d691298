use Rattle.std.proofs.Common.{nat_lt, rules}
use Rattle.std.proofs.lemmas.List.Sorted.{IsPartitionPoint-from_clause}
use Rattle.buffer_rows.proofs.Paged.{rows_are_partitioned, start_at}
use Rattle.buffer_rows.proofs.numbered.first_from.Goals as goal

-- the closure compares a row's number
pub returns : goal.returns
returns g c =
    let number = g.R.Numbered.number_of in
    let point = IsPartitionPoint-from_clause (λ r. nat_lt (number r) c.args.first) c.args.rows.now c.partition_point.result c.partition_point.ensures.partitioned
    (rows_are_partitioned number c.args.rows.now c.args.first c.requires) (λ a r f called. search rules) in
    start_at number c.args.rows.now c.args.first c.partition_point.result c.partition_point.ensures.bound point
