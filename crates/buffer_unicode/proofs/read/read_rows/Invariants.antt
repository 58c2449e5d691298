use Rattle.std.proofs.Common.{◌≡◌, ◌++◌, drop, map, None}
use Rattle.buffer_unicode.specs.Keys.{row_fault}
use Rattle.buffer_unicode.proofs.read.read_rows.Given as goal

abbrev pub invariant-loop-numbers : goal.invariant-loop-numbers
invariant-loop-numbers g l = record {
  records : l.records.items ++ map g.R.Row.of_numbers (drop l.numbers-index l.rows) ≡ map g.R.Row.of_numbers l.rows;
  faults : row_fault g.R.Row.is_in_range g.R.DoublyKeyed.high g.R.DoublyKeyed.low l.before (map g.R.Row.of_numbers (drop l.numbers-index l.rows)) ≡ row_fault g.R.Row.is_in_range g.R.DoublyKeyed.high g.R.DoublyKeyed.low None (map g.R.Row.of_numbers l.rows);
}
