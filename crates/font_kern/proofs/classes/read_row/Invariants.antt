use Rattle.std.proofs.Common.{◌≡◌, ◌+◌, ◌*◌, ◌-◌, ◌++◌}
use Rattle.font_bytes.specs.Records.{records}
use Rattle.font_kern.specs.Pairs.{kern_values}
use Rattle.font_kern.specs.Classes.{distance_at}
use Rattle.font_kern.proofs.classes.read_row.Given as goal

-- the values so far, and those that are left, are all
abbrev pub invariant-loop-index : goal.invariant-loop-index
invariant-loop-index l =
    l.values.items ++ records (λ o. kern_values l.is_backward (distance_at l.table o)) l.inner.width (l.at + l.inner.width * l.index) (l.inner.count - l.index)
    ≡ records (λ o. kern_values l.is_backward (distance_at l.table o)) l.inner.width l.at l.inner.count
