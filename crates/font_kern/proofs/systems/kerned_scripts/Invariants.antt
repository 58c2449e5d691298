use Rattle.std.proofs.Common.{◌≡◌, take}
use Rattle.font_kern.specs.Scripts.{kerned_scripts}
use Rattle.font_kern.proofs.systems.kerned_scripts.Given as goal

-- the scripts so far are those of the first rows
abbrev pub invariant-loop-row : goal.invariant-loop-row
invariant-loop-row l = l.scripts.items ≡ kerned_scripts l.table.features l.table.scripts l.lacks_forward (take l.row-index l.rows)
