use Rattle.std.proofs.Common.{◌≡◌, ◌+◌, length}
use Rattle.buffer_rows.specs.Pages.{Extends, IsBlock, IsStart}
use Rattle.buffer_rows.proofs.slots.push_slots.Given as goal

abbrev pub invariant-loop-low : goal.invariant-loop-low
invariant-loop-low g l = record {
  size : length l.slots.items ≡ length l.initial.slots.items + l.low;
  kept : Extends l.initial.slots.items l.slots.items;
  block : IsBlock g.R.Numbered.number_of l.rows l.slots.items (length l.initial.slots.items) l.first l.low;
  start : IsStart g.R.Numbered.number_of l.rows (l.first + l.low) l.at;
}
