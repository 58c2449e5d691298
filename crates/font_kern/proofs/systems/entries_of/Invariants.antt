use Rattle.std.proofs.Common.{◌≡◌, map, take}
use Rattle.font_kern.specs.Scripts.{kerned_entry}
use Rattle.font_kern.proofs.systems.entries_of.Given as goal

-- the systems so far are those of the first rows
abbrev pub invariant-loop-row : goal.invariant-loop-row
invariant-loop-row l = l.rows.items ≡ map (kerned_entry l.table.features l.index) (take l.row-index l.systems)
