use Rattle.std.proofs.Common.{◌≡◌, ◌++◌, drop}
use Rattle.font_kern.specs.Scripts.{scripts_of}
use Rattle.font_kern.proofs.scripts.scripts_of.Given as goal

-- the scripts so far, and those of the characters that are left, are all
abbrev pub invariant-loop-row : goal.invariant-loop-row
invariant-loop-row l = l.scripts.items ++ scripts_of (drop l.row-index l.characters) ≡ scripts_of l.characters
