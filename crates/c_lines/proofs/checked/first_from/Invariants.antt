use Rattle.std.proofs.Common.{◌≡◌, ◌≤◌, ◌+◌, drop, length}
use Rattle.c_lines.specs.Checked.{first_from}
use Rattle.c_lines.proofs.checked.first_from.Given as goal

-- all characters before the index are before the unit
abbrev pub invariant-loop-k : goal.invariant-loop-k
invariant-loop-k l = (first_from l.unit l.infos ≡ l.k + first_from l.unit (drop l.k l.infos)) × (l.k ≤ length l.infos)
