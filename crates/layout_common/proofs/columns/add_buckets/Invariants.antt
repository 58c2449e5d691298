use Rattle.std.proofs.Common.{◌≡◌, length}
use Rattle.layout_common.specs.Neighbours.{AreKeptBits}
use Rattle.layout_common.proofs.ColumnBits.{HasBuckets}
use Rattle.layout_common.proofs.columns.add_buckets.Given as goal

-- the columns of the buckets so far have the bit
abbrev pub invariant-loop-b : goal.invariant-loop-b
invariant-loop-b l = record {
  size : length l.words.items ≡ length l.fn.words.items;
  kept : AreKeptBits l.fn.words.items l.words.items;
  added : HasBuckets l.buckets l.words.items l.first l.bit l.b;
}
