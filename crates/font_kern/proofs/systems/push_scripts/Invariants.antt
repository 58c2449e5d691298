use Rattle.std.proofs.Common.{◌≡◌, ◌++◌, map, take}
use Rattle.font_kern.specs.Scripts.{script_row}
use Rattle.font_kern.proofs.systems.push_scripts.Given as goal

-- the rows so far are those of the first scripts
abbrev pub invariant-loop-script : goal.invariant-loop-script
invariant-loop-script l = l.rows.items ≡ map (λ s. script_row s.tag) (take l.script-index l.scripts)
