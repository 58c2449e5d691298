use Rattle.std.proofs.Common.{◌≡◌, length}
use Rattle.layout_tables.specs.PairRows.{AreStarts}
use Rattle.layout_tables.proofs.pair_rows.push_starts.Given as goal

abbrev pub invariant-loop-low : goal.invariant-loop-low
invariant-loop-low l = record {
  size : length l.starts.items ≡ l.low;
  starts : AreStarts l.rows l.starts.items l.first;
}
