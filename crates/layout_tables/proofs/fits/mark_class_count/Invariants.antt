use Rattle.std.proofs.Common.{◌≡◌, ◌≤◌, drop}
use Rattle.layout_tables.specs.Fits.{mark_class_count}
use Rattle.layout_tables.proofs.fits.mark_class_count.Given as goal

abbrev pub invariant-loop-row : goal.invariant-loop-row
invariant-loop-row l = mark_class_count l.count (drop l.row-index l.marks) ≡ mark_class_count 0 l.marks
