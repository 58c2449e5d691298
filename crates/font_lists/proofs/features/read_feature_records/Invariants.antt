use Rattle.std.proofs.Common.{◌≡◌, ◌+◌, ◌-◌, ◌*◌, ◌++◌}
use Rattle.font_bytes.specs.Records.{records}
use Rattle.font_lists.specs.Features.{default_records}
use Rattle.font_lists.specs.Tagged.{tag_record, tag_records}
use Rattle.font_lists.proofs.features.read_feature_records.Given as goal

-- the records so far and those that are left are all
abbrev pub invariant-loop-index : goal.invariant-loop-index
invariant-loop-index l = l.tagged.items ++ default_records l.alternates l.index (records (tag_record l.table l.base) 6 (l.at + 6 * l.index) (l.count - l.index))
    ≡ default_records l.alternates 0 (tag_records l.table l.base l.at l.count)
