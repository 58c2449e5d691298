use Rattle.std.proofs.Common.{◌≡◌, ◌++◌, drop}
use Rattle.std.specs.List.{flat_map}
use Rattle.font_kern.specs.Classes.{left_class}
use Rattle.font_kern.proofs.classes.left_rows.Given as goal

-- the rows so far, and those of the values that are left, are all
abbrev pub invariant-loop-row : goal.invariant-loop-row
invariant-loop-row l = l.rows.items ++ flat_map (left_class l.header) (drop l.row-index l.list) ≡ flat_map (left_class l.header) l.list
