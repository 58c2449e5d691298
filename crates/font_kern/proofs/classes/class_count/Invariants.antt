use Rattle.std.proofs.Common.{◌≡◌, ◌≤◌, drop}
use Rattle.layout_tables.specs.Fits.{class_count}
use Rattle.font_kern.proofs.classes.class_count.Given as goal

-- the count so far, with the rows that are left, is the count of all
abbrev pub invariant-loop-row : goal.invariant-loop-row
invariant-loop-row l = record {
  all : class_count l.count (drop l.row-index l.rows) ≡ class_count 0 l.rows;
  few : l.count ≤ 65536;
}
