use Rattle.std.proofs.Common.{◌≡◌, ◌+◌, ◌*◌, ◌-◌, ◌++◌}
use Rattle.std.specs.List.{flat_map}
use Rattle.font_bytes.specs.Records.{records}
use Rattle.font_common.specs.ClassDefinition.{class_range_array, class_range_record, are_class_ranges, class_rows_of}
use Rattle.font_common.proofs.class_definition.read_range_array.Given as goal

-- the rows so far and those of the ranges that are left are all; the rest is in order exactly where all are
abbrev pub invariant-loop-index : goal.invariant-loop-index
invariant-loop-index l = record {
  all : l.rows.items ++ flat_map class_rows_of (records (class_range_record l.table) 6 (l.from + 6 * l.index) (l.count - l.index)) ≡ flat_map class_rows_of (class_range_array l.table l.from l.count);
  order : are_class_ranges l.least (records (class_range_record l.table) 6 (l.from + 6 * l.index) (l.count - l.index)) ≡ are_class_ranges 0 (class_range_array l.table l.from l.count);
}
