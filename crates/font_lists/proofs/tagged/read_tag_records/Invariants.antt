use Rattle.std.proofs.Common.{◌≡◌, ◌+◌, ◌-◌, ◌*◌, ◌++◌}
use Rattle.font_bytes.specs.Records.{records}
use Rattle.font_lists.specs.Tagged.{tag_record}
use Rattle.font_lists.proofs.tagged.read_tag_records.Given as goal

-- the records so far and those that are left are all
abbrev pub invariant-loop-index : goal.invariant-loop-index
invariant-loop-index l = l.tagged.items ++ records (tag_record l.table l.base) 6 (l.at + 6 * l.index) (l.count - l.index) ≡ records (tag_record l.table l.base) 6 l.at l.count
