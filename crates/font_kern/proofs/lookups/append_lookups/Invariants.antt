use Rattle.std.proofs.Common.{◌≡◌, ◌+◌, ◌*◌, length, drop}
use Rattle.font_common.specs.Offsets.{after}
use Rattle.font_kern.specs.Lookups.{kern_lookups}
use Rattle.font_kern.proofs.lookups.append_lookups.Given as goal

-- the lookups so far, and those of the subtables that are left, are all; two for each subtable
abbrev pub invariant-loop-subtable : goal.invariant-loop-subtable
invariant-loop-subtable l = record {
  all : after l.fn.lookups.items (kern_lookups l.is_backward l.table l.fn.room.left (length l.fn.lookups.items) l.subtables)
      ≡ after l.lookups.items (kern_lookups l.is_backward l.table l.room.left (length l.lookups.items) (drop l.subtable-index l.subtables));
  two : length l.lookups.items ≡ length l.fn.lookups.items + 2 * l.subtable-index;
}
