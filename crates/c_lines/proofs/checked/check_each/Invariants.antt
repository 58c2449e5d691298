use Rattle.std.proofs.Common.{◌≡◌, ◌++◌, drop, length, map, take}
use Rattle.c_lines.specs.Checked.{checked_line, first_from}
use Rattle.c_lines.proofs.checked.check_each.Given as goal

-- the first lines are checked, and the unit at which the last of them ends has its index
abbrev pub invariant-loop-k : goal.invariant-loop-k
invariant-loop-k l = record {
  lines : (l.lines ≡ take l.k (map (checked_line l.premises l.tables l.plan l.infos) l.fn.lines) ++ drop l.k l.fn.lines) × (length l.lines ≡ length l.fn.lines);
  index : l.index ≡ first_from l.unit l.infos;
}
