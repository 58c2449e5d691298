use Rattle.std.proofs.Common.{◌≡◌, ◌≤◌, ◌+◌, ◌-◌, ◌*◌, ◌++◌, length}
use Rattle.font_bytes.specs.Records.{records}
use Rattle.font_contexts.specs.Rules.{known_records, lookup_record, lookup_records}
use Rattle.font_contexts.proofs.few.few_records.Given as goal

-- the records so far and the known ones of those that are left are all
abbrev pub invariant-loop-index : goal.invariant-loop-index
invariant-loop-index l = record {
  all : l.records.items ++ known_records l.lookup_count (records (lookup_record l.table) 4 (l.array.at + 4 * l.index) (l.array.count - l.index))
      ≡ lookup_records l.lookup_count l.table l.array;
  size : length l.records.items ≤ l.index;
}
