use Rattle.std.proofs.Common.{◌≡◌, [], ◌+◌, ◌*◌, ◌-◌}
use Rattle.font_bytes.specs.Words.{long}
use Rattle.font_bytes.specs.Records.{records}
use Rattle.font_common.specs.Coverage.{coverage_at}
use Rattle.font_common.specs.Offsets.{after, tables_in, value_at_offset}
use Rattle.font_lists.specs.Definition.{coverages_in}
use Rattle.font_lists.proofs.definition.read_coverages.Given as goal

-- the coverages so far, and those of the offsets that are left, are all
abbrev pub invariant-loop-index : goal.invariant-loop-index
invariant-loop-index l = coverages_in l.fn.room.left l.table l.base (records (long l.table) 4 l.at l.count)
    ≡ after l.coverages.items (coverages_in l.room.left l.table l.base (records (long l.table) 4 (l.at + 4 * l.index) (l.count - l.index)))
