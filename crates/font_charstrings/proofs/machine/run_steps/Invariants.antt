use Rattle.std.proofs.Common.{◌≡◌, ◌+◌}
use Rattle.font_charstrings.specs.Machine.{state, runs}
use Rattle.font_charstrings.proofs.machine.run_steps.Given as goal

-- the steps that are left lead where all lead
abbrev pub invariant-loop-index : goal.invariant-loop-index
invariant-loop-index l = record {
  room : l.room.left + l.index ≡ l.index-end;
  all : runs l.table l.context l.room.left (state l.run l.stack.items l.calls.items) ≡ runs l.table l.context l.initial.room.left (state l.initial.run l.initial.stack.items l.initial.calls.items);
}
