use Rattle.std.proofs.Common.{◌≡◌, ◌+◌, ◌*◌, ◌-◌, ◌++◌}
use Rattle.font_kern.specs.Classes.{listed_values}
use Rattle.font_kern.proofs.classes.listed_values.Given as goal

-- the values so far, and those that are left, are all
abbrev pub invariant-loop-index : goal.invariant-loop-index
invariant-loop-index l =
    l.rows.items ++ listed_values l.table (l.at + 2 * l.index) (l.first + l.index) (l.count - l.index) ≡ listed_values l.table l.at l.first l.count
