use Rattle.std.proofs.Common.{◌≡◌, ◌+◌, ◌*◌, ◌-◌, ◌++◌, length}
use Rattle.std.specs.List.{flat_map}
use Rattle.font_common.specs.Coverage.{range_array, range_record, are_ranges, run_of}
use Rattle.font_bytes.specs.Records.{records}
use Rattle.font_common.proofs.coverage.read_ranges.Given as goal

-- the glyphs so far and those of the ranges that are left are all; the rest is in order exactly where all are
abbrev pub invariant-loop-index : goal.invariant-loop-index
invariant-loop-index l = record {
  all : l.glyphs.items ++ flat_map run_of (records (range_record l.table) 6 (l.at + 4 + 6 * l.index) (l.count - l.index)) ≡ flat_map run_of (range_array l.table (l.at + 4) l.count);
  order : are_ranges l.least (length l.glyphs.items) (records (range_record l.table) 6 (l.at + 4 + 6 * l.index) (l.count - l.index)) ≡ are_ranges 0 0 (range_array l.table (l.at + 4) l.count);
}
