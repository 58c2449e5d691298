use Rattle.std.proofs.Common.{◌≡◌, ◌-◌}
use Rattle.font_common.specs.Offsets.{after}
use Rattle.font_kern.specs.Subtables.{subtables_from}
use Rattle.font_kern.proofs.subtables.read_subtables.Given as goal

-- the subtables so far, and those of the headers that are left, are all
abbrev pub invariant-loop-index : goal.invariant-loop-index
invariant-loop-index l =
    subtables_from l.directory.is_apple l.table l.fn.room.left l.directory.at l.directory.count
    ≡ after l.found.items (subtables_from l.directory.is_apple l.table l.room.left l.at (l.directory.count - l._index))
