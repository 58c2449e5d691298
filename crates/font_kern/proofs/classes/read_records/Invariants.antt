use Rattle.std.proofs.Common.{◌≡◌, ◌+◌, ◌*◌, ◌-◌, ◌++◌}
use Rattle.font_kern.specs.Classes.{class_records}
use Rattle.font_kern.proofs.classes.read_records.Given as goal

-- the rows so far, and those that are left, are all
abbrev pub invariant-loop-index : goal.invariant-loop-index
invariant-loop-index l =
    l.rows.items ++ class_records l.is_backward l.table (l.at + l.outer.width * l.index) l.outer.width (l.outer.count - l.index) l.inner.width l.inner.count
    ≡ class_records l.is_backward l.table l.at l.outer.width l.outer.count l.inner.width l.inner.count
