use Rattle.std.proofs.Common.{◌≡◌, ◌≤◌, drop}
use Rattle.layout_tables.specs.Fits.{class_count}
use Rattle.layout_tables.proofs.fits.class_count.Given as goal

abbrev pub invariant-loop-row : goal.invariant-loop-row
invariant-loop-row l = class_count l.count (drop l.row-index l.rows) ≡ class_count 0 l.rows
