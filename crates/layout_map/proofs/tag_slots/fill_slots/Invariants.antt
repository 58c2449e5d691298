use Rattle.std.proofs.Common.{◌≡◌, take, length}
use Rattle.layout_map.specs.TagSlots.{HaveSlots}
use Rattle.layout_map.proofs.tag_slots.fill_slots.Given as goal

-- those so far are taken
abbrev pub invariant-loop-i : goal.invariant-loop-i
invariant-loop-i l = record { slots : length l.slots ≡ 61; taken : HaveSlots l.slots (take l.i l.features) }
