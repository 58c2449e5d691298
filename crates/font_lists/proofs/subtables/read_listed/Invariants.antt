use Rattle.std.proofs.Common.{◌≡◌, drop}
use Rattle.font_common.specs.Offsets.{after}
use Rattle.font_lists.specs.Lookups.{subtables_of_type}
use Rattle.font_lists.proofs.subtables.read_listed.Given as goal

-- the subtables so far, and those of the offsets that are left, are all
abbrev pub invariant-loop-offset : goal.invariant-loop-offset
invariant-loop-offset g l = subtables_of_type (g.R.SubtableReader.subtable_at l.reader) l.fn.room.left l.table l.lookup_type l.offsets
    ≡ after l.subtables.items (subtables_of_type (g.R.SubtableReader.subtable_at l.reader) l.room.left l.table l.lookup_type (drop l.offset-index l.offsets))
