use Rattle.std.proofs.Common.{◌≡◌, ◌+◌, ◌*◌, ◌-◌, ◌++◌}
use Rattle.font_bytes.specs.Records.{records}
use Rattle.font_metrics.specs.Origins.{origin_record}
use Rattle.font_metrics.proofs.origins.all_records.Given as goal

-- the records so far and those that are left are all
abbrev pub invariant-loop-index : goal.invariant-loop-index
invariant-loop-index l = l.rows.items ++ records (origin_record l.table) 4 (8 + 4 * l.index) (l.count - l.index) ≡ records (origin_record l.table) 4 8 l.count
