use Rattle.std.proofs.Common.{◌≡◌, length}
use Rattle.layout_common.specs.Neighbours.{AreKeptBits}
use Rattle.layout_common.proofs.ColumnBits.{HasColumns}
use Rattle.layout_common.proofs.columns.add_all.Given as goal

-- the columns so far have the bit
abbrev pub invariant-loop-c : goal.invariant-loop-c
invariant-loop-c l = record {
  size : length l.words.items ≡ length l.fn.words.items;
  kept : AreKeptBits l.fn.words.items l.words.items;
  added : HasColumns l.words.items l.start l.bit l.c;
}
